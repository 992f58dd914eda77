-- The fronts and endings of the names of objects: where a name is split, and what cannot be.
use Rattle.std.proofs.Common.{◌≡◌, ◌≢◌, ℕ, ◌^◌, ◌<◌, Bool, true, false, List, [], ◌∷◌, ◌++◌, length, get_or, take, drop, refl, sym, ◌∙◌, ap, arith, length-append, take_at, drop_at, lit<}
use Rattle.std.specs.Str.{IsCharBoundary}
use Rattle.std.proofs.Math.Seq.{get_or-append_seam}
use Rattle.std.specs.Prelude.{codes}
use Rattle.std.proofs.lemmas.List.{append_cancel_left, take-append-drop}
use Rattle.mx_base.specs.Digits.{digits, instant_text, IsInstant}
use Rattle.mx_base.specs.Objects.{timeline_ending, metadata_ending, base_ending, part_front}
use Rattle.mx_base.specs.Paths.{number_of}
use Rattle.mx_base.specs.declared.part.Part.{Part}
use Rattle.mx_base.specs.declared.part.Part.TheVariants.{Files, ColumnStats, BloomFilters, RecordIndex}
use Rattle.mx_base.specs.declared.object_name.ActionKind.{ActionKind}
use Rattle.mx_base.specs.declared.object_name.ActionKind.TheVariants as action
use Rattle.mx_base.specs.declared.object_name.ActionState.{ActionState}
use Rattle.mx_base.specs.declared.object_name.ActionState.TheVariants.{Requested, Inflight, Completed}
use Rattle.mx_base.specs.declared.object_name.MetadataActionKind.{MetadataActionKind}
use Rattle.mx_base.specs.declared.object_name.MetadataActionKind.TheVariants as metadata
use Rattle.mx_base.specs.declared.object_name.BaseKind.{BaseKind}
use Rattle.mx_base.specs.declared.object_name.BaseKind.TheVariants as base
use Rattle.mx_base.proofs.PathLemmas.{number_of_digits, number_of-instant_text}
use Rattle.mx_base.proofs.Places.{length-instant, length-digits}

-- ---- the front of a name

pub append-split : (a b e f : List ℕ) (n : ℕ) → length a ≡ n → length b ≡ n → a ++ e ≡ b ++ f → (a ≡ b) × (e ≡ f)
append-split a b e f n here there same =
    (sym (take_at a e n here) ∙ ap (take n) same ∙ take_at b f n there, sym (drop_at a e n here) ∙ ap (drop n) same ∙ drop_at b f n there)

pub instant-split : (a b : ℕ) (e f : List ℕ) → a < 10 ^ 17 → b < 10 ^ 17 → instant_text a ++ e ≡ instant_text b ++ f → (a ≡ b) × (e ≡ f)
instant-split a b e f small_a small_b same =
    let parts = append-split (instant_text a) (instant_text b) e f 17 (length-instant a) (length-instant b) same in
    (sym (number_of-instant_text a small_a) ∙ ap number_of parts.0 ∙ number_of-instant_text b small_b, parts.1)

pub shard-split : (a b : ℕ) (e f : List ℕ) → a < 10000 → b < 10000 → digits 4 a ++ (codes "_" ++ e) ≡ digits 4 b ++ (codes "_" ++ f) → (a ≡ b) × (e ≡ f)
shard-split a b e f small_a small_b same =
    let parts = append-split (digits 4 a) (digits 4 b) (codes "_" ++ e) (codes "_" ++ f) 4 (length-digits 4 a) (length-digits 4 b) same in
    (sym (number_of_digits 4 a small_a) ∙ ap number_of parts.0 ∙ number_of_digits 4 b small_b, append_cancel_left (codes "_") e f parts.1)

-- the first byte tells the partition
unfoldable pub first_byte : List ℕ → ℕ
first_byte l = get_or l 0 0

pub part-split : (p q : Part) (e f : List ℕ) → part_front p ++ e ≡ part_front q ++ f → (p ≡ q) × (e ≡ f)
unfolding first_byte
part-split Files Files e f same = (refl, append_cancel_left (part_front Files) e f same)
part-split Files ColumnStats e f same = absurd (omega (arith, ap first_byte same))
part-split Files BloomFilters e f same = absurd (omega (arith, ap first_byte same))
part-split Files RecordIndex e f same = absurd (omega (arith, ap first_byte same))
part-split ColumnStats Files e f same = absurd (omega (arith, ap first_byte same))
part-split ColumnStats ColumnStats e f same = (refl, append_cancel_left (part_front ColumnStats) e f same)
part-split ColumnStats BloomFilters e f same = absurd (omega (arith, ap first_byte same))
part-split ColumnStats RecordIndex e f same = absurd (omega (arith, ap first_byte same))
part-split BloomFilters Files e f same = absurd (omega (arith, ap first_byte same))
part-split BloomFilters ColumnStats e f same = absurd (omega (arith, ap first_byte same))
part-split BloomFilters BloomFilters e f same = (refl, append_cancel_left (part_front BloomFilters) e f same)
part-split BloomFilters RecordIndex e f same = absurd (omega (arith, ap first_byte same))
part-split RecordIndex Files e f same = absurd (omega (arith, ap first_byte same))
part-split RecordIndex ColumnStats e f same = absurd (omega (arith, ap first_byte same))
part-split RecordIndex BloomFilters e f same = absurd (omega (arith, ap first_byte same))
part-split RecordIndex RecordIndex e f same = (refl, append_cancel_left (part_front RecordIndex) e f same)

-- what cannot be split
pub no_part : (name : List ℕ) → ((rest : List ℕ) → name ≢ codes "files/files-" ++ rest) → ((rest : List ℕ) → name ≢ codes "column_stats/column_stats-" ++ rest) → ((rest : List ℕ) → name ≢ codes "bloom_filters/bloom_filters-" ++ rest) → ((rest : List ℕ) → name ≢ codes "record_index/record_index-" ++ rest) → (part : Part) (rest : List ℕ) → name ≢ part_front part ++ rest
no_part name f c b r Files rest same = f rest same
no_part name f c b r ColumnStats rest same = c rest same
no_part name f c b r BloomFilters rest same = b rest same
no_part name f c b r RecordIndex rest same = r rest same

pub no_shard : (name front : List ℕ) → front ≡ take 4 name → length front ≡ 4 → ((n : ℕ) → front ≢ digits (length front) n) → (shard : ℕ) (rest : List ℕ) → name ≢ digits 4 shard ++ (codes "_" ++ rest)
no_shard name front is len never shard rest same =
    never shard (is ∙ ap (take 4) same ∙ take_at (digits 4 shard) (codes "_" ++ rest) 4 (length-digits 4 shard) ∙ ap (λ (k : ℕ). digits k shard) (sym len))

pub no_instant : (name front : List ℕ) → front ≡ take 17 name → ¬ (IsInstant front) → (at : ℕ) (ending : List ℕ) → at < 10 ^ 17 → name ≢ instant_text at ++ ending
no_instant name front is never at ending small same =
    never (at, small, is ∙ ap (take 17) same ∙ take_at (instant_text at) ending 17 (length-instant at))

-- ---- endings

pub timeline_ending-head : (kind : ActionKind) (state : ActionState) → get_or (timeline_ending kind state) 0 0 < 128
timeline_ending-head action.Commit Requested = lit< tt
timeline_ending-head action.Commit Inflight = lit< tt
timeline_ending-head action.Commit Completed = lit< tt
timeline_ending-head action.Clean Requested = lit< tt
timeline_ending-head action.Clean Inflight = lit< tt
timeline_ending-head action.Clean Completed = lit< tt
timeline_ending-head action.Rollback Requested = lit< tt
timeline_ending-head action.Rollback Inflight = lit< tt
timeline_ending-head action.Rollback Completed = lit< tt
timeline_ending-head action.Indexing Requested = lit< tt
timeline_ending-head action.Indexing Inflight = lit< tt
timeline_ending-head action.Indexing Completed = lit< tt

pub metadata_ending-head : (kind : MetadataActionKind) (completed : Bool) → get_or (metadata_ending kind completed) 0 0 < 128
metadata_ending-head metadata.DeltaCommit false = lit< tt
metadata_ending-head metadata.DeltaCommit true = lit< tt
metadata_ending-head metadata.Indexing false = lit< tt
metadata_ending-head metadata.Indexing true = lit< tt
metadata_ending-head metadata.Compaction false = lit< tt
metadata_ending-head metadata.Compaction true = lit< tt
metadata_ending-head metadata.Clean false = lit< tt
metadata_ending-head metadata.Clean true = lit< tt

pub base_ending-head : (kind : BaseKind) → get_or (base_ending kind) 0 0 < 128
base_ending-head base.Compaction = lit< tt
base_ending-head base.Indexing = lit< tt

-- where a text may be cut
pub boundary_at : (name front rest : List ℕ) (n : ℕ) → length front ≡ n → get_or rest 0 0 < 128 → name ≡ front ++ rest → IsCharBoundary name n
boundary_at name front [] n len low is = (omega (arith, len, ap length is, length-append front []), λ longer high. absurd (omega (arith, len, longer, ap length is, length-append front [])))
boundary_at name front (y ∷ ys) n len low is = (
  omega (arith, len, ap length is, length-append front (y ∷ ys)),
  λ longer high. let byte : get_or name n 0 ≡ y = ap (λ (l : List ℕ). get_or l n 0) is ∙ ap (λ (i : ℕ). get_or (front ++ y ∷ ys) i 0) (sym len) ∙ get_or-append_seam front y ys 0 in absurd (omega (arith, high, byte, low)),
)

pub boundary : (name : List ℕ) (at : ℕ) (ending : List ℕ) → get_or ending 0 0 < 128 → name ≡ instant_text at ++ ending → IsCharBoundary name 17
boundary name at ending low is = boundary_at name (instant_text at) ending 17 (length-instant at) low is

pub base_no_log : (kind : BaseKind) → base_ending kind ≢ codes ".log"
unfolding first_byte
base_no_log base.Compaction same = absurd (omega (arith, ap first_byte same))
base_no_log base.Indexing same = absurd (omega (arith, ap first_byte same))

pub whole_name : (name front ending : List ℕ) (at : ℕ) → front ≡ take 17 name → ending ≡ drop 17 name → front ≡ instant_text at → name ≡ instant_text at ++ ending
whole_name name front ending at first last is =
    sym (take-append-drop 17 name) ∙ ap (λ (l : List ℕ). l ++ drop 17 name) (sym first ∙ is) ∙ ap (λ (l : List ℕ). instant_text at ++ l) (sym last)
