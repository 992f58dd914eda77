use Rattle.std.proofs.Common.{◌≡◌, rules}
use Rattle.mx_base.specs.Paths.{data_path}
use Rattle.mx_meta.specs.declared.commit_meta.WriteStat.{WriteStat}
use Rattle.mx_meta.proofs.JsonLemmas.{named_more}
use Rattle.mx_open.proofs.KindLemmas.{one_not, all_taken, said_not, said_so}
use Rattle.mx_open.proofs.kinds.are_named.Goals as goal

pub returns-then-not-branch : goal.returns-then-not-branch
returns-then-not-branch c = one_not (λ (s : WriteStat). s.path ≡ data_path c.args.partition.now s.file_id c.args.at) c.args.stats.now c.loop-stat.stat-index c.stat-item.result (search rules) c.stat-item.is (said_not c.in_ok-is_named.field-0 (c.stat-item.result.path ≡ data_path c.args.partition.now c.stat-item.result.file_id c.args.at) c.if-not-branch.true c.in_ok-is_named.ensures)

pub loop-stat-preserved : goal.loop-stat-preserved
loop-stat-preserved c =
    named_more (λ (s : WriteStat). s.path ≡ data_path c.args.partition.now s.file_id c.args.at) c.args.stats.now c.loop-stat.stat-index c.stat-item.result c.loop-stat.invariant (said_so c.in_ok-is_named.field-0 (c.stat-item.result.path ≡ data_path c.args.partition.now c.stat-item.result.file_id c.args.at) c.if-not-branch.false c.in_ok-is_named.ensures) (search rules) c.stat-item.is

pub returns : goal.returns
returns c = all_taken (λ (s : WriteStat). s.path ≡ data_path c.args.partition.now s.file_id c.args.at) c.args.stats.now c.loop-stat.stat-index (search rules) c.loop-stat.invariant
