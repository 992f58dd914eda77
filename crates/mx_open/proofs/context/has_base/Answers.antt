use Rattle.std.proofs.Common.{rules}
use Rattle.mx_folder.specs.Reading.{IsBaseOf}
use Rattle.mx_meta.proofs.JsonLemmas.{named_more}
use Rattle.mx_open.proofs.KindLemmas.{one_of, none_of, all_taken, said_not, said_so}
use Rattle.mx_open.proofs.context.has_base.Goals as goal

pub returns-then-is_base_of : goal.returns-then-is_base_of
returns-then-is_base_of c = (c.path-item.result, one_of c.args.bases.now c.loop-path.path-index c.path-item.result (search rules) c.path-item.is, said_so c.is_base_of.result (IsBaseOf c.args.part c.path-item.result) c.if-is_base_of.true c.is_base_of.ensures)

pub loop-path-preserved : goal.loop-path-preserved
loop-path-preserved c =
    named_more (λ path. ¬ (IsBaseOf c.args.part path)) c.args.bases.now c.loop-path.path-index c.path-item.result c.loop-path.invariant
    (said_not c.is_base_of.result (IsBaseOf c.args.part c.path-item.result) c.if-is_base_of.false c.is_base_of.ensures) (search rules) c.path-item.is

pub returns : goal.returns
returns c has = none_of (IsBaseOf c.args.part) c.args.bases.now has.0 (all_taken (λ path. ¬ (IsBaseOf c.args.part path)) c.args.bases.now c.loop-path.path-index (search rules) c.loop-path.invariant) has.1 has.2
