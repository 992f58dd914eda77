-- What texts are read as.
use Rattle.std.proofs.Common.{◌≡◌, ℕ, ◌<◌, ◌^◌, Bool, true, false, List, [], ◌∷◌, Result, Ok, Err, Option, Some, None, refl, sym, ap, ◌∙◌, ◌&&◌}
use Rattle.std.specs.Prelude.{if◌then◌else◌, option_and_then, nat_lt, cond}
use Rattle.std.specs.List.{find}
use Rattle.std.specs.Str.{bytes_eq}
use Rattle.std.proofs.lemmas.Bool.Decides.{Decides-ltb}
use Rattle.std.proofs.lemmas.Slice.Eq.{bytes_eq-Decides}
use Rattle.serde_json.specs.Data.{Data, string}
use Rattle.serde_json.specs.Find.{get, as_str}
use Rattle.mx_base.specs.Digits.{instant_text, IsInstant}
use Rattle.mx_base.specs.Parts.{part_name}
use Rattle.mx_base.specs.Paths.{instant_of, number_of}
use Rattle.mx_base.specs.declared.part.Part.{Part}
use Rattle.mx_base.specs.declared.part.Part.TheVariants.{Files, ColumnStats, BloomFilters, RecordIndex}
use Rattle.mx_base.specs.declared.instant.BadName.{BadName}
use Rattle.mx_base.proofs.PathLemmas.{instant_of-instant_text}
use Rattle.mx_meta.specs.Json.{field_in, instant_in, part_in}

-- ---- instants

pub instant_found : (text : List ℕ) (at : ℕ) → text ≡ instant_text at → at < 10 ^ 17 → Some at ≡ instant_of text
instant_found text at is small = sym (ap instant_of is ∙ instant_of-instant_text at small)

pub no_instant : (text : List ℕ) → ¬ IsInstant text → None ≡ instant_of text
unfolding instant_of
no_instant text none = chosen (nat_lt (number_of text) (10 ^ 17)) refl (bytes_eq text (instant_text (number_of text))) refl
  where
    chosen : (a : Bool) → nat_lt (number_of text) (10 ^ 17) ≡ a → (b : Bool) → bytes_eq text (instant_text (number_of text)) ≡ b → None ≡ (if a && b then Some (number_of text) else None)
    chosen true small true same = absurd (none (number_of text, (Decides-ltb (number_of text) (10 ^ 17)).0 small, (bytes_eq-Decides text (instant_text (number_of text))).0 same))
    chosen true small false same = refl
    chosen false small b same = refl

-- the text of a field is an instant, or none
pub instant_in_field : (d : Data) (name text : List ℕ) → Some text ≡ field_in as_str name d → instant_of text ≡ field_in instant_in name d
unfolding instant_in
instant_in_field d name text is = from (get name d) is
  where
    from : (o : Option Data) → Some text ≡ option_and_then as_str o → instant_of text ≡ option_and_then (λ e. option_and_then instant_of (as_str e)) o
    from None is = absurd (cc is)
    from (Some e) is = ap (option_and_then instant_of) is

-- ---- index partitions

-- a text that no partition has for its name
no_part_find : (text : List ℕ) {r : Result Part BadName} (e : BadName) → ((part : Part) → text ≡ part_name part → r ≡ Ok part) → r ≡ Err e →
    None ≡ find (λ part. bytes_eq text (part_name part)) (Files ∷ ColumnStats ∷ BloomFilters ∷ RecordIndex ∷ [])
no_part_find text {r} e only is =
    sym (passed Files (ColumnStats ∷ BloomFilters ∷ RecordIndex ∷ []) (passed ColumnStats (BloomFilters ∷ RecordIndex ∷ []) (passed BloomFilters (RecordIndex ∷ []) (passed RecordIndex [] refl))))
  where
    other : (part : Part) → (b : Bool) → bytes_eq text (part_name part) ≡ b → bytes_eq text (part_name part) ≡ false
    other part false same = same
    other part true same = absurd (cc (only part ((bytes_eq-Decides text (part_name part)).0 same), is))

    passed : (part : Part) (parts : List Part) → find (λ p. bytes_eq text (part_name p)) parts ≡ None → find (λ p. bytes_eq text (part_name p)) (part ∷ parts) ≡ None
    passed part parts rest = ap (λ (b : Bool). cond b (Some part) (find (λ p. bytes_eq text (part_name p)) parts)) (other part (bytes_eq text (part_name part)) refl) ∙ rest

pub no_part : (text : List ℕ) (d : Data) {r : Result Part BadName} (e : BadName) → ((part : Part) → text ≡ part_name part → r ≡ Ok part) → r ≡ Err e → Some text ≡ as_str d → None ≡ part_in d
unfolding part_in
no_part text d e only is shown =
    no_part_find text e only is
    ∙ ap (option_and_then (λ t. find (λ part. bytes_eq t (part_name part)) (Files ∷ ColumnStats ∷ BloomFilters ∷ RecordIndex ∷ []))) shown

pub part_found : (text : List ℕ) (d : Data) (part : Part) → text ≡ part_name part → Some text ≡ as_str d → Some part ≡ part_in d
unfolding part_in
part_found text d part is shown =
    found part
    ∙ ap (λ (t : List ℕ). find (λ part. bytes_eq t (part_name part)) (Files ∷ ColumnStats ∷ BloomFilters ∷ RecordIndex ∷ [])) (sym is)
    ∙ ap (option_and_then (λ t. find (λ part. bytes_eq t (part_name part)) (Files ∷ ColumnStats ∷ BloomFilters ∷ RecordIndex ∷ []))) shown
  where
    found : (part : Part) → Some part ≡ find (λ p. bytes_eq (part_name part) (part_name p)) (Files ∷ ColumnStats ∷ BloomFilters ∷ RecordIndex ∷ [])
    found Files = refl
    found ColumnStats = refl
    found BloomFilters = refl
    found RecordIndex = refl

pub part_in-part_name : (part : Part) → part_in (string (part_name part)) ≡ Some part
part_in-part_name part = sym (part_found (part_name part) (string (part_name part)) part refl refl)

pub instant_in-instant_text : (at : ℕ) → at < 10 ^ 17 → instant_in (string (instant_text at)) ≡ Some at
unfolding instant_in
instant_in-instant_text at small = instant_of-instant_text at small
