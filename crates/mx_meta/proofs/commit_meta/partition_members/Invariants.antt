use Rattle.std.proofs.Common.{◌≡◌, take, All}
use Rattle.serde_json.specs.View.{members_view}
use Rattle.mx_meta.specs.CommitText.{partitions_data, HasNamesWithin}
use Rattle.mx_meta.proofs.commit_meta.partition_members.Given as goal

abbrev pub invariant-loop-written : goal.invariant-loop-written
invariant-loop-written l = record {
  made : members_view l.members.entries ≡ partitions_data (take l.written-index l.partitions);
  named : All HasNamesWithin (take l.written-index l.partitions);
}
