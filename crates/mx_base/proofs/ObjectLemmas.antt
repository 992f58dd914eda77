-- The name that a path is of is its only one.
use Rattle.std.proofs.Common.{◌≡◌, ◌≢◌, ℕ, Bool, true, false, List, [], ◌∷◌, ◌++◌, Option, Some, refl, sym, ◌∙◌, ap, arith}
use Rattle.std.specs.Option.{SomeIff}
use Rattle.std.specs.Str.{bytes_eq}
use Rattle.std.proofs.lemmas.Option.{same_Some}
use Rattle.std.specs.Prelude.{codes}
use Rattle.std.specs.List.{find}
use Rattle.mx_base.specs.Digits.{digits, instant_text}
use Rattle.mx_base.specs.Objects.{timeline_ending, metadata_ending, base_ending, part_front, object_path, IsObjectName, timeline_kinds, metadata_kinds}
use Rattle.mx_base.specs.Paths.{commit_path, files_log_path}
use Rattle.mx_base.specs.declared.part.Part.{Part}
use Rattle.mx_base.specs.declared.part.Part.TheVariants.{Files}
use Rattle.mx_base.specs.declared.object_name.ActionKind.{ActionKind}
use Rattle.mx_base.specs.declared.object_name.ActionKind.TheVariants as action
use Rattle.mx_base.specs.declared.object_name.ActionState.{ActionState}
use Rattle.mx_base.specs.declared.object_name.ActionState.TheVariants.{Requested, Inflight, Completed}
use Rattle.mx_base.specs.declared.object_name.MetadataActionKind.{MetadataActionKind}
use Rattle.mx_base.specs.declared.object_name.MetadataActionKind.TheVariants as metadata
use Rattle.mx_base.specs.declared.object_name.BaseKind.{BaseKind}
use Rattle.mx_base.specs.declared.object_name.BaseKind.TheVariants as base
use Rattle.mx_base.specs.declared.object_name.ObjectName.{ObjectName}
use Rattle.mx_base.specs.declared.object_name.ObjectName.TheVariants.{Config, Timeline, Metadata, Base, Log}
use Rattle.mx_base.proofs.ObjectSplits.{first_byte, base_no_log}
use Rattle.mx_base.proofs.ObjectPaths.{is_timeline, is_metadata, is_base, is_log}
use Rattle.mx_base.proofs.ObjectReadings.{in_shard, instant_head, part_head, config_only, timeline_only, metadata_only, shard_only, timeline_small, metadata_small, base_small, log_small, timeline_exact, metadata_exact, IsShardName, base_dated, log_dated, log_exact, base_exact}

timeline_kind_of : List ℕ → Option (ActionKind × ActionState)
timeline_kind_of ending = find (λ (p : ActionKind × ActionState). bytes_eq ending (timeline_ending p.0 p.1)) timeline_kinds

timeline_kind_of-ending : (kind : ActionKind) (state : ActionState) → ◌≡◌ {A = Option (ActionKind × ActionState)} (timeline_kind_of (timeline_ending kind state)) (Some (kind, state))
unfolding timeline_kind_of
timeline_kind_of-ending action.Commit Requested = refl
timeline_kind_of-ending action.Commit Inflight = refl
timeline_kind_of-ending action.Commit Completed = refl
timeline_kind_of-ending action.Clean Requested = refl
timeline_kind_of-ending action.Clean Inflight = refl
timeline_kind_of-ending action.Clean Completed = refl
timeline_kind_of-ending action.Rollback Requested = refl
timeline_kind_of-ending action.Rollback Inflight = refl
timeline_kind_of-ending action.Rollback Completed = refl
timeline_kind_of-ending action.Indexing Requested = refl
timeline_kind_of-ending action.Indexing Inflight = refl
timeline_kind_of-ending action.Indexing Completed = refl

metadata_kind_of : List ℕ → Option (MetadataActionKind × Bool)
metadata_kind_of ending = find (λ (p : MetadataActionKind × Bool). bytes_eq ending (metadata_ending p.0 p.1)) metadata_kinds

metadata_kind_of-ending : (kind : MetadataActionKind) (completed : Bool) → ◌≡◌ {A = Option (MetadataActionKind × Bool)} (metadata_kind_of (metadata_ending kind completed)) (Some (kind, completed))
unfolding metadata_kind_of
metadata_kind_of-ending metadata.DeltaCommit false = refl
metadata_kind_of-ending metadata.DeltaCommit true = refl
metadata_kind_of-ending metadata.Indexing false = refl
metadata_kind_of-ending metadata.Indexing true = refl
metadata_kind_of-ending metadata.Compaction false = refl
metadata_kind_of-ending metadata.Compaction true = refl
metadata_kind_of-ending metadata.Clean false = refl
metadata_kind_of-ending metadata.Clean true = refl

base_kind_of : List ℕ → Option BaseKind
base_kind_of ending = find (λ (kind : BaseKind). bytes_eq ending (base_ending kind)) (base.Compaction ∷ base.Indexing ∷ [])

base_kind_of-ending : (kind : BaseKind) → base_kind_of (base_ending kind) ≡ Some kind
unfolding base_kind_of
base_kind_of-ending base.Compaction = refl
base_kind_of-ending base.Indexing = refl

kept_some : (object : ObjectName) → IsObjectName object → SomeIff (Some object) (IsObjectName object) object
kept_some object kept = (kept, refl)

no_config : (at : ℕ) (ending : List ℕ) → instant_text at ++ ending ≢ codes "hoodie.properties"
unfolding first_byte
no_config at ending same = absurd (omega (arith, ap first_byte same, instant_head at ending))

no_folder : (at : ℕ) (ending more : List ℕ) → instant_text at ++ ending ≢ codes "metadata/" ++ more
unfolding first_byte
no_folder at ending more same = absurd (omega (arith, ap first_byte same, instant_head at ending))

no_inner : (part : Part) (rest more : List ℕ) → part_front part ++ rest ≢ codes ".hoodie/" ++ more
unfolding first_byte
no_inner part rest more same = absurd (omega (arith, ap first_byte same, part_head part rest))

-- the name that a path is of is its only one
pub object_path-injective : (one other : ObjectName) → IsObjectName one → IsObjectName other → object_path one ≡ object_path other → one ≡ other
object_path-injective Config other kept there same = config_only (object_path Config) refl other same
object_path-injective (Timeline a k s) other kept there same =
    let name : List ℕ = instant_text a ++ timeline_ending k s in
    same_Some (Timeline a k s) other (timeline_only (object_path (Timeline a k s)) name (sym (is_timeline a k s)) (no_config a (timeline_ending k s)) (no_folder a (timeline_ending k s)) (Some (Timeline a k s))
    (timeline_exact (Some (Timeline a k s)) a k s name (timeline_ending k s) (kept_some (Timeline a k s) kept) (timeline_small a k s kept) refl
    (λ kind state ends. sym (timeline_kind_of-ending k s) ∙ ap timeline_kind_of ends ∙ timeline_kind_of-ending kind state)) other there same)
object_path-injective (Metadata a k s) other kept there same =
    let name : List ℕ = instant_text a ++ metadata_ending k s in
    same_Some (Metadata a k s) other (metadata_only (object_path (Metadata a k s)) name (sym (is_metadata a k s)) (Some (Metadata a k s))
    (metadata_exact (Some (Metadata a k s)) a k s name (metadata_ending k s) (kept_some (Metadata a k s) kept) (metadata_small a k s kept) refl
    (λ kind completed ends. sym (metadata_kind_of-ending k s) ∙ ap metadata_kind_of ends ∙ metadata_kind_of-ending kind completed)) other there same)
object_path-injective (Base p s a k) other kept there same =
    let end : List ℕ = instant_text a ++ base_ending k in
    let more : List ℕ = digits 4 s ++ (codes "_" ++ end) in
    let bounds = base_small p s a k kept in
    let is : IsShardName p s (part_front p ++ more) more end = record { parted = refl; small = bounds.0; sharded = refl } in
    same_Some (Base p s a k) other (shard_only (object_path (Base p s a k)) (part_front p ++ more) (sym (is_base p s a k ∙ in_shard p s end)) (no_inner p more) (Some (Base p s a k))
    (λ part shard upto kind kept_other same_other.
    let here = base_dated p s a (part_front p ++ more) more end (base_ending k) is bounds.1 refl part shard upto kind kept_other same_other in
    base_exact p part s shard a upto k kind here.0 here.1 here.2 (sym (base_kind_of-ending k) ∙ ap base_kind_of here.3 ∙ base_kind_of-ending kind))
    (λ part shard at kept_other same_other.
    let here = log_dated p s a (part_front p ++ more) more end (base_ending k) is bounds.1 refl part shard at kept_other same_other in
    absurd (base_no_log k here.3)) other there same)
object_path-injective (Log p s a) other kept there same =
    let end : List ℕ = instant_text a ++ codes ".log" in
    let more : List ℕ = digits 4 s ++ (codes "_" ++ end) in
    let bounds = log_small p s a kept in
    let is : IsShardName p s (part_front p ++ more) more end = record { parted = refl; small = bounds.0; sharded = refl } in
    same_Some (Log p s a) other (shard_only (object_path (Log p s a)) (part_front p ++ more) (sym (is_log p s a ∙ in_shard p s end)) (no_inner p more) (Some (Log p s a))
    (λ part shard upto kind kept_other same_other.
    let here = base_dated p s a (part_front p ++ more) more end (codes ".log") is bounds.1 refl part shard upto kind kept_other same_other in
    absurd (base_no_log kind (sym here.3)))
    (λ part shard at kept_other same_other.
    let here = log_dated p s a (part_front p ++ more) more end (codes ".log") is bounds.1 refl part shard at kept_other same_other in
    log_exact (Some (Log p s a)) p part s shard a at (kept_some (Log p s a) kept) kept_other here.0 here.1 here.2) other there same)

-- ---- names that have a path of their own

pub object_path-commit : (at : ℕ) → object_path (Timeline at action.Commit Completed) ≡ commit_path at
unfolding object_path commit_path
object_path-commit at = refl

pub object_path-files_log : (at : ℕ) → object_path (Log Files 0 at) ≡ files_log_path at
unfolding object_path files_log_path
object_path-files_log at = refl
