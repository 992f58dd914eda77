use Rattle.std.proofs.Common.{◌≡◌, All, rules, sym, subst}
use Rattle.mx_base.specs.Paths.{data_path}
use Rattle.mx_meta.specs.declared.commit_meta.PartitionStats.{PartitionStats}
use Rattle.mx_meta.specs.declared.commit_meta.WriteStat.{WriteStat}
use Rattle.mx_meta.proofs.JsonLemmas.{named_more}
use Rattle.mx_open.proofs.KindLemmas.{one_not, all_taken, said_not, said_so}
use Rattle.mx_open.proofs.kinds.names_its_files.Goals as goal

pub returns-then-not-branch : goal.returns-then-not-branch
returns-then-not-branch c =
    let named = λ (s : WriteStat). s.path ≡ data_path c.written-item.result.partition s.file_id c.args.at in
    one_not (λ (p : PartitionStats). All (λ (s : WriteStat). s.path ≡ data_path p.partition s.file_id c.args.at) p.stats) c.args.partitions.now c.loop-written.written-index c.written-item.result (search rules) c.written-item.is
    (λ all. said_not c.in_ok-are_named.field-0 (All named c.as_slice.result.now) c.if-not-branch.true c.in_ok-are_named.ensures (subst (All named) (sym c.as_slice.ensures) all))

pub loop-written-preserved : goal.loop-written-preserved
loop-written-preserved c =
    let named = λ (s : WriteStat). s.path ≡ data_path c.written-item.result.partition s.file_id c.args.at in
    named_more (λ (p : PartitionStats). All (λ (s : WriteStat). s.path ≡ data_path p.partition s.file_id c.args.at) p.stats) c.args.partitions.now c.loop-written.written-index c.written-item.result c.loop-written.invariant
    (subst (All named) c.as_slice.ensures (said_so c.in_ok-are_named.field-0 (All named c.as_slice.result.now) c.if-not-branch.false c.in_ok-are_named.ensures)) (search rules) c.written-item.is

pub returns : goal.returns
returns c = all_taken (λ (p : PartitionStats). All (λ (s : WriteStat). s.path ≡ data_path p.partition s.file_id c.args.at) p.stats) c.args.partitions.now c.loop-written.written-index (search rules) c.loop-written.invariant
