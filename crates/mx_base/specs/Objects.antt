-- The names of the objects below `.hoodie/`.
use Rattle.std.specs.Prelude.{ℕ, ◌≡◌, ◌^◌, ◌&&◌, ◌||◌, not, nat_lt, Bool, true, false, List, [], ◌∷◌, ◌++◌, codes}
use Rattle.std.specs.List.{flat_map}
use Rattle.mx_base.specs.Digits.{digits, instant_text}
use Rattle.mx_base.specs.Parts.{part_name}
use Rattle.mx_base.specs.declared.part.Part.{Part}
use Rattle.mx_base.specs.declared.object_name.ActionKind.{ActionKind}
use Rattle.mx_base.specs.declared.object_name.ActionKind.TheVariants as action
use Rattle.mx_base.specs.declared.object_name.ActionState.{ActionState}
use Rattle.mx_base.specs.declared.object_name.ActionState.TheVariants.{Requested, Inflight, Completed}
use Rattle.mx_base.specs.declared.object_name.MetadataActionKind.{MetadataActionKind}
use Rattle.mx_base.specs.declared.object_name.MetadataActionKind.TheVariants as metadata
use Rattle.mx_base.specs.declared.object_name.BaseKind.{BaseKind}
use Rattle.mx_base.specs.declared.object_name.BaseKind.TheVariants as base
use Rattle.mx_base.specs.declared.object_name.ObjectName.{ObjectName}
use Rattle.mx_base.specs.declared.object_name.ObjectName.TheVariants.{Config, Timeline, Metadata, Base, Log}

-- how the name of an object of the data timeline ends
abbrev pub timeline_ending : ActionKind → ActionState → List ℕ
timeline_ending action.Commit Requested = codes ".commit.requested"
timeline_ending action.Commit Inflight = codes ".inflight"
timeline_ending action.Commit Completed = codes ".commit"
timeline_ending action.Clean Requested = codes ".clean.requested"
timeline_ending action.Clean Inflight = codes ".clean.inflight"
timeline_ending action.Clean Completed = codes ".clean"
timeline_ending action.Rollback Requested = codes ".rollback.requested"
timeline_ending action.Rollback Inflight = codes ".rollback.inflight"
timeline_ending action.Rollback Completed = codes ".rollback"
timeline_ending action.Indexing Requested = codes ".indexing.requested"
timeline_ending action.Indexing Inflight = codes ".indexing.inflight"
timeline_ending action.Indexing Completed = codes ".indexing"

-- how the name of an object of the metadata timeline ends
abbrev pub metadata_ending : MetadataActionKind → Bool → List ℕ
metadata_ending metadata.DeltaCommit false = codes ".deltacommit.inflight"
metadata_ending metadata.DeltaCommit true = codes ".deltacommit"
metadata_ending metadata.Indexing false = codes "010.deltacommit.inflight"
metadata_ending metadata.Indexing true = codes "010.deltacommit"
metadata_ending metadata.Compaction false = codes "001.compaction.inflight"
metadata_ending metadata.Compaction true = codes "001.commit"
metadata_ending metadata.Clean false = codes "002.clean.inflight"
metadata_ending metadata.Clean true = codes "002.clean"

-- how the name of a base ends
abbrev pub base_ending : BaseKind → List ℕ
base_ending base.Compaction = codes "001.hfile"
base_ending base.Indexing = codes "010.hfile"

-- the folder of an index partition, and how the names in it begin
abbrev pub part_front : Part → List ℕ
part_front part = part_name part ++ (codes "/" ++ (part_name part ++ codes "-"))

-- how the paths of a shard's bases and logs begin
abbrev pub shard_front : Part → ℕ → List ℕ
shard_front part shard = codes ".hoodie/metadata/" ++ (part_front part ++ (digits 4 shard ++ codes "_"))

-- where an object stands
unfoldable pub object_path : ObjectName → List ℕ
object_path Config = codes ".hoodie/hoodie.properties"
object_path (Timeline at kind state) = codes ".hoodie/" ++ (instant_text at ++ timeline_ending kind state)
object_path (Metadata at kind completed) = codes ".hoodie/metadata/.hoodie/" ++ (instant_text at ++ metadata_ending kind completed)
object_path (Base part shard upto kind) = shard_front part shard ++ (instant_text upto ++ base_ending kind)
object_path (Log part shard at) = shard_front part shard ++ (instant_text at ++ codes ".log")

-- a number of at most 17 digits
abbrev pub is_instant : ℕ → Bool
is_instant at = nat_lt at (10 ^ 17)

-- what is done at the instant of an action of the data timeline
abbrev pub is_delta_commit : MetadataActionKind → Bool
is_delta_commit metadata.DeltaCommit = true
is_delta_commit metadata.Indexing = false
is_delta_commit metadata.Compaction = false
is_delta_commit metadata.Clean = false

-- shards have four digits; 0 is an instant only where an index begins or is compacted
abbrev pub is_object_name : ObjectName → Bool
is_object_name Config = true
is_object_name (Timeline at kind state) = nat_lt 0 at && is_instant at
is_object_name (Metadata at kind completed) = (nat_lt 0 at || not (is_delta_commit kind)) && is_instant at
is_object_name (Base part shard upto kind) = nat_lt shard 10000 && is_instant upto
is_object_name (Log part shard at) = nat_lt shard 10000 && (nat_lt 0 at && is_instant at)

abbrev pub IsObjectName : ObjectName → Type 0
IsObjectName name = is_object_name name ≡ true

-- each kind and state of an action of the data timeline
abbrev pub timeline_kinds : List (ActionKind × ActionState)
timeline_kinds =
    flat_map (λ kind. (kind, Requested) ∷ (kind, Inflight) ∷ (kind, Completed) ∷ []) (action.Commit ∷ action.Clean ∷ action.Rollback ∷ action.Indexing ∷ [])

-- each kind of an action of the metadata timeline, completed or not
abbrev pub metadata_kinds : List (MetadataActionKind × Bool)
metadata_kinds = flat_map (λ kind. (kind, false) ∷ (kind, true) ∷ []) (metadata.DeltaCommit ∷ metadata.Indexing ∷ metadata.Compaction ∷ metadata.Clean ∷ [])
