use Rattle.std.proofs.Common.{length, arith, subst, sym, List, ℕ}
use Rattle.mx_levels.specs.Decoding.{Decodes}
use Rattle.mx_levels.proofs.WrittenLemmas.{written_more, written_all, written_decodes}
use Rattle.mx_levels.proofs.writing.write_levels.Goals as goal

pub loop-level-preserved : goal.loop-level-preserved
loop-level-preserved c =
    let l = c.loop-level in
    record {
      spelled =
          written_more
          c.args.levels.now l.rest.now c.split_at.result.1.now l.out.items _ c.leading-count.result c.in-Some.field-0.now
          c.in-Some.ensures.value c.leading-count.ensures.count c.split_at.ensures.back c.in_ok-put_run.ensures l.invariant.spelled;
      within = omega (arith, c.split_at.ensures.back_len);
    }

pub returns-clause-reads : goal.returns-clause-reads
returns-clause-reads c =
    let l = c.loop-level in
    let all = written_all c.args.levels.now l.rest.now l.out.items c.in_default.ensures.value l.invariant.spelled in
    subst (λ (out : List ℕ). Decodes out (length c.args.levels.now) c.args.levels.now) (sym all) (written_decodes c.args.levels.now (omega arith))
