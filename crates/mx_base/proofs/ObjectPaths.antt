-- The paths of objects are paths.
use Rattle.std.proofs.Common.{◌≡◌, ◌≤◌, ℕ, Bool, true, false, List, ◌++◌, length, refl, sym, ◌∙◌, ap, arith, length-append, lit≤}
use Rattle.std.specs.Prelude.{codes, ◌==◌, nat_le}
use Rattle.std.specs.List.{list_all, slice_split}
use Rattle.mx_base.specs.Digits.{digits, instant_text}
use Rattle.mx_base.specs.Names.{is_name_byte, is_path, is_segment, IsPath}
use Rattle.mx_base.specs.Objects.{timeline_ending, metadata_ending, base_ending, shard_front, object_path}
use Rattle.mx_base.specs.Parts.{part_name}
use Rattle.mx_base.specs.declared.part.Part.{Part}
use Rattle.mx_base.specs.declared.part.Part.TheVariants.{Files, ColumnStats, BloomFilters, RecordIndex}
use Rattle.mx_base.specs.declared.object_name.ActionKind.{ActionKind}
use Rattle.mx_base.specs.declared.object_name.ActionKind.TheVariants as action
use Rattle.mx_base.specs.declared.object_name.ActionState.{ActionState}
use Rattle.mx_base.specs.declared.object_name.ActionState.TheVariants.{Requested, Inflight, Completed}
use Rattle.mx_base.specs.declared.object_name.MetadataActionKind.{MetadataActionKind}
use Rattle.mx_base.specs.declared.object_name.MetadataActionKind.TheVariants as metadata
use Rattle.mx_base.specs.declared.object_name.BaseKind.{BaseKind}
use Rattle.mx_base.specs.declared.object_name.BaseKind.TheVariants as base
use Rattle.mx_base.specs.declared.object_name.ObjectName.{ObjectName}
use Rattle.mx_base.specs.declared.object_name.ObjectName.TheVariants.{Config, Timeline, Metadata, Base, Log}
use Rattle.std.proofs.lemmas.Bool.{and_from, le-leb}
use Rattle.mx_base.proofs.NameLemmas.{named-append, named-instant_text, digits_named, long_segment, last_segment}
use Rattle.mx_base.proofs.Places.{length-instant}

-- an ending that a name may have
record IsEnding (ending : List ℕ) : Type 0 where
  pub named : list_all is_name_byte ending ≡ true
  pub short : length ending ≤ 30

timeline_ending-IsEnding : (kind : ActionKind) (state : ActionState) → IsEnding (timeline_ending kind state)
timeline_ending-IsEnding action.Commit Requested = record { named = refl; short = lit≤ tt }
timeline_ending-IsEnding action.Commit Inflight = record { named = refl; short = lit≤ tt }
timeline_ending-IsEnding action.Commit Completed = record { named = refl; short = lit≤ tt }
timeline_ending-IsEnding action.Clean Requested = record { named = refl; short = lit≤ tt }
timeline_ending-IsEnding action.Clean Inflight = record { named = refl; short = lit≤ tt }
timeline_ending-IsEnding action.Clean Completed = record { named = refl; short = lit≤ tt }
timeline_ending-IsEnding action.Rollback Requested = record { named = refl; short = lit≤ tt }
timeline_ending-IsEnding action.Rollback Inflight = record { named = refl; short = lit≤ tt }
timeline_ending-IsEnding action.Rollback Completed = record { named = refl; short = lit≤ tt }
timeline_ending-IsEnding action.Indexing Requested = record { named = refl; short = lit≤ tt }
timeline_ending-IsEnding action.Indexing Inflight = record { named = refl; short = lit≤ tt }
timeline_ending-IsEnding action.Indexing Completed = record { named = refl; short = lit≤ tt }

metadata_ending-IsEnding : (kind : MetadataActionKind) (completed : Bool) → IsEnding (metadata_ending kind completed)
metadata_ending-IsEnding metadata.DeltaCommit false = record { named = refl; short = lit≤ tt }
metadata_ending-IsEnding metadata.DeltaCommit true = record { named = refl; short = lit≤ tt }
metadata_ending-IsEnding metadata.Indexing false = record { named = refl; short = lit≤ tt }
metadata_ending-IsEnding metadata.Indexing true = record { named = refl; short = lit≤ tt }
metadata_ending-IsEnding metadata.Compaction false = record { named = refl; short = lit≤ tt }
metadata_ending-IsEnding metadata.Compaction true = record { named = refl; short = lit≤ tt }
metadata_ending-IsEnding metadata.Clean false = record { named = refl; short = lit≤ tt }
metadata_ending-IsEnding metadata.Clean true = record { named = refl; short = lit≤ tt }

base_ending-IsEnding : (kind : BaseKind) → IsEnding (base_ending kind)
base_ending-IsEnding base.Compaction = record { named = refl; short = lit≤ tt }
base_ending-IsEnding base.Indexing = record { named = refl; short = lit≤ tt }

-- ---- paths

instant_named : (at : ℕ) (ending : List ℕ) → IsEnding ending → list_all is_name_byte (instant_text at ++ ending) ≡ true
instant_named at ending is = named-append (instant_text at) ending (named-instant_text at) is.named

length-instant_ending : (at : ℕ) (ending : List ℕ) → IsEnding ending → length (instant_text at ++ ending) ≤ 47
length-instant_ending at ending is = omega (arith, length-append (instant_text at) ending, length-instant at, is.short)

instant_segment : (at : ℕ) (ending : List ℕ) → IsEnding ending → is_segment (instant_text at ++ ending) ≡ true
instant_segment at ending is =
    long_segment (instant_text at ++ ending) (omega (arith, length-append (instant_text at) ending, length-instant at)) (omega (arith, length-instant_ending at ending is)) (instant_named at ending is)

IsPath-timeline : (at : ℕ) (ending : List ℕ) → IsEnding ending → IsPath (codes ".hoodie/" ++ (instant_text at ++ ending))
unfolding is_path is_segment
IsPath-timeline at ending is =
    and_from (nat_le (length (codes ".hoodie/" ++ (instant_text at ++ ending))) 1024) _ (le-leb _ 1024 (omega (arith, length-instant_ending at ending is)))
    (last_segment (instant_text at ++ ending) (instant_named at ending is) (instant_segment at ending is))

IsPath-metadata : (at : ℕ) (ending : List ℕ) → IsEnding ending → IsPath (codes ".hoodie/metadata/.hoodie/" ++ (instant_text at ++ ending))
unfolding is_path is_segment
IsPath-metadata at ending is =
    and_from (nat_le (length (codes ".hoodie/metadata/.hoodie/" ++ (instant_text at ++ ending))) 1024) _ (le-leb _ 1024 (omega (arith, length-instant_ending at ending is)))
    (last_segment (instant_text at ++ ending) (instant_named at ending is) (instant_segment at ending is))

-- the last segment of a path of a shard
shard_name : Part → ℕ → ℕ → List ℕ → List ℕ
shard_name part shard at ending = part_name part ++ (codes "-" ++ (digits 4 shard ++ (codes "_" ++ (instant_text at ++ ending))))

named-part : (part : Part) → list_all is_name_byte (part_name part) ≡ true
named-part Files = refl
named-part ColumnStats = refl
named-part BloomFilters = refl
named-part RecordIndex = refl

named-shard_name : (part : Part) (shard at : ℕ) (ending : List ℕ) → IsEnding ending → list_all is_name_byte (shard_name part shard at ending) ≡ true
unfolding shard_name
named-shard_name part shard at ending is =
    let last : List ℕ = instant_text at ++ ending in
    named-append (part_name part) (codes "-" ++ (digits 4 shard ++ (codes "_" ++ last))) (named-part part)
    (named-append (codes "-") (digits 4 shard ++ (codes "_" ++ last)) refl (named-append (digits 4 shard) (codes "_" ++ last) (digits_named 4 shard) (named-append (codes "_") last refl (instant_named at ending is))))

length-shard_name : (part : Part) (shard at : ℕ) (ending : List ℕ) → IsEnding ending → (18 ≤ length (shard_name part shard at ending)) × (length (shard_name part shard at ending) ≤ 70)
unfolding shard_name
length-shard_name Files shard at ending is = (omega (arith, length-append (instant_text at) ending, length-instant at), omega (arith, length-instant_ending at ending is))
length-shard_name ColumnStats shard at ending is = (omega (arith, length-append (instant_text at) ending, length-instant at), omega (arith, length-instant_ending at ending is))
length-shard_name BloomFilters shard at ending is = (omega (arith, length-append (instant_text at) ending, length-instant at), omega (arith, length-instant_ending at ending is))
length-shard_name RecordIndex shard at ending is = (omega (arith, length-append (instant_text at) ending, length-instant at), omega (arith, length-instant_ending at ending is))

shard_segments : (part : Part) (shard at : ℕ) (ending : List ℕ) → IsEnding ending → list_all is_segment (slice_split (λ byte. byte == 47) (shard_name part shard at ending)) ≡ true
shard_segments part shard at ending is =
    let named = named-shard_name part shard at ending is in
    let len = length-shard_name part shard at ending is in
    last_segment (shard_name part shard at ending) named (long_segment (shard_name part shard at ending) (omega (arith, len.0)) (omega (arith, len.1)) named)

IsPath-shard : (part : Part) (shard at : ℕ) (ending : List ℕ) → IsEnding ending → IsPath (shard_front part shard ++ (instant_text at ++ ending))
unfolding is_path is_segment shard_name
IsPath-shard Files shard at ending is =
    and_from (nat_le (length (shard_front Files shard ++ (instant_text at ++ ending))) 1024) _ (le-leb _ 1024 (omega (arith, length-instant_ending at ending is))) (shard_segments Files shard at ending is)
IsPath-shard ColumnStats shard at ending is =
    and_from (nat_le (length (shard_front ColumnStats shard ++ (instant_text at ++ ending))) 1024) _ (le-leb _ 1024 (omega (arith, length-instant_ending at ending is))) (shard_segments ColumnStats shard at ending is)
IsPath-shard BloomFilters shard at ending is =
    and_from (nat_le (length (shard_front BloomFilters shard ++ (instant_text at ++ ending))) 1024) _ (le-leb _ 1024 (omega (arith, length-instant_ending at ending is))) (shard_segments BloomFilters shard at ending is)
IsPath-shard RecordIndex shard at ending is =
    and_from (nat_le (length (shard_front RecordIndex shard ++ (instant_text at ++ ending))) 1024) _ (le-leb _ 1024 (omega (arith, length-instant_ending at ending is))) (shard_segments RecordIndex shard at ending is)

-- each object's path is a path
pub IsPath-object_path : (name : ObjectName) → IsPath (object_path name)
unfolding object_path is_path is_segment
IsPath-object_path Config = refl
IsPath-object_path (Timeline at kind state) = IsPath-timeline at (timeline_ending kind state) (timeline_ending-IsEnding kind state)
IsPath-object_path (Metadata at kind completed) = IsPath-metadata at (metadata_ending kind completed) (metadata_ending-IsEnding kind completed)
IsPath-object_path (Base part shard upto kind) = IsPath-shard part shard upto (base_ending kind) (base_ending-IsEnding kind)
IsPath-object_path (Log part shard at) = IsPath-shard part shard at (codes ".log") (record { named = refl; short = lit≤ tt })

-- what a function's path is
pub is_timeline : (at : ℕ) (kind : ActionKind) (state : ActionState) → object_path (Timeline at kind state) ≡ codes ".hoodie/" ++ (instant_text at ++ timeline_ending kind state)
unfolding object_path
is_timeline at kind state = refl

pub is_metadata : (at : ℕ) (kind : MetadataActionKind) (completed : Bool) → object_path (Metadata at kind completed) ≡ codes ".hoodie/metadata/.hoodie/" ++ (instant_text at ++ metadata_ending kind completed)
unfolding object_path
is_metadata at kind completed = refl

pub is_base : (part : Part) (shard upto : ℕ) (kind : BaseKind) → object_path (Base part shard upto kind) ≡ shard_front part shard ++ (instant_text upto ++ base_ending kind)
unfolding object_path
is_base part shard upto kind = refl

pub is_log : (part : Part) (shard at : ℕ) → object_path (Log part shard at) ≡ shard_front part shard ++ (instant_text at ++ codes ".log")
unfolding object_path
is_log part shard at = refl

pub timeline_at : (name : ObjectName) (at : ℕ) (kind : ActionKind) (state : ActionState) (ending : List ℕ) → name ≡ Timeline at kind state → ending ≡ timeline_ending kind state → codes ".hoodie/" ++ (instant_text at ++ ending) ≡ object_path name
timeline_at name at kind state ending is ends = ap (λ (e : List ℕ). codes ".hoodie/" ++ (instant_text at ++ e)) ends ∙ sym (is_timeline at kind state) ∙ ap object_path (sym is)

pub metadata_at : (name : ObjectName) (at : ℕ) (kind : MetadataActionKind) (completed : Bool) (ending : List ℕ) → name ≡ Metadata at kind completed → ending ≡ metadata_ending kind completed → codes ".hoodie/metadata/.hoodie/" ++ (instant_text at ++ ending) ≡ object_path name
metadata_at name at kind completed ending is ends = ap (λ (e : List ℕ). codes ".hoodie/metadata/.hoodie/" ++ (instant_text at ++ e)) ends ∙ sym (is_metadata at kind completed) ∙ ap object_path (sym is)

pub base_at : (name : ObjectName) (part : Part) (shard upto : ℕ) (kind : BaseKind) (front ending : List ℕ) → name ≡ Base part shard upto kind → front ≡ shard_front part shard → ending ≡ base_ending kind → front ++ (instant_text upto ++ ending) ≡ object_path name
base_at name part shard upto kind front ending is begins ends =
    ap (λ (f : List ℕ). f ++ (instant_text upto ++ ending)) begins ∙ ap (λ (e : List ℕ). shard_front part shard ++ (instant_text upto ++ e)) ends ∙ sym (is_base part shard upto kind) ∙ ap object_path (sym is)

pub log_at : (name : ObjectName) (part : Part) (shard at : ℕ) (front : List ℕ) → name ≡ Log part shard at → front ≡ shard_front part shard → front ++ (instant_text at ++ codes ".log") ≡ object_path name
log_at name part shard at front is begins = ap (λ (f : List ℕ). f ++ (instant_text at ++ codes ".log")) begins ∙ sym (is_log part shard at) ∙ ap object_path (sym is)
