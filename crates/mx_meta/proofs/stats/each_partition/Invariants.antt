use Rattle.std.proofs.Common.{◌≡◌, ◌++◌}
use Rattle.std.specs.Prelude.{option_map}
use Rattle.serde_json.specs.View.{members_view}
use Rattle.mx_meta.specs.CommitText.{partitions_in}
use Rattle.mx_meta.proofs.stats.each_partition.Given as goal

-- what is left decides
abbrev pub invariant-loop-name : goal.invariant-loop-name
invariant-loop-name l = option_map (λ more. l.partitions ++ more) (partitions_in (members_view l.name-iterator)) ≡ partitions_in (members_view l.initial.name-iterator)
