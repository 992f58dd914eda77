use Rattle.std.proofs.Common.{rules, ◌≡◌, ◌∙◌, sym, ap, subst, map, List}
use Rattle.std.specs.Map.Iter.{deref}
use Rattle.std.proofs.lemmas.Map.Iter.{iter_end}
use Rattle.mx_meta.specs.declared.commit_meta.PartitionStats.{PartitionStats}
use Rattle.mx_commit.specs.Grouping.{partition_stats}
use Rattle.mx_commit.specs.Written.{IsMetaOf}
use Rattle.mx_commit.proofs.GroupingLemmas.{grouped}
use Rattle.mx_commit.proofs.meta.meta_of.Goals as goal

pub returns : goal.returns
returns c =
    let names = c.in_ok-names.names in
    let ids = c.in_ok-ids.ids in
    let all : map deref c.loop-partition.yielded ≡ names.keys = search (rules, iter_end) in
    subst (λ (ps : List PartitionStats). IsMetaOf c.args.written.now (record { partitions = ps })) (sym (c.loop-partition.invariant ∙ ap (map (partition_stats c.args.written.now ids.keys)) all))
    (grouped c.args.written.now names ids c.requires.apart c.in_ok-names.ensures c.in_ok-ids.ensures.has c.iter-partition-items.ensures.ordered c.in_ok-ids.ensures.rise)
