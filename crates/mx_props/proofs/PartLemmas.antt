-- The texts of parts tell them apart.
use Rattle.std.proofs.Common.{◌≡◌, ◌≢◌, ℕ, ◌<◌, List, [], ◌∷◌, ◌++◌, length, get_or, map, refl, sym, ◌∙◌, ap, subst, arith, append_assoc, Option, Some, None}
use Rattle.std.specs.Prelude.{codes, ◌==◌, if◌then◌else◌}
use Rattle.std.specs.List.{slice_split, AllByRecursion, flat_map}
use Rattle.std.specs.Option.{option_to_list}
use Rattle.std.specs.Str.{bytes_eq}
use Rattle.std.proofs.lemmas.List.{append-nil}
use Rattle.std.proofs.lemmas.List.Folds.{list_all-append}
use Rattle.std.proofs.lemmas.List.Splits.{slice_split_none, slice_split_at}
use Rattle.std.proofs.lemmas.List.Elements.{All-from_recursion, All-get_or}
use Rattle.mx_base.specs.declared.part.Part.{Part}
use Rattle.mx_base.specs.declared.part.Part.TheVariants.{Files, ColumnStats, BloomFilters, RecordIndex}
use Rattle.mx_base.specs.Parts.{part_name}
use Rattle.mx_schema.proofs.ColumnLemmas.{Lacks, All-lacks, and_both}
use Rattle.mx_props.specs.Config.{parts_text}
use Rattle.mx_props.specs.Reading.{is_plain_byte, IsPlain}

no_comma : (part : Part) → Lacks 44 (part_name part)
no_comma Files = refl
no_comma ColumnStats = refl
no_comma BloomFilters = refl
no_comma RecordIndex = refl

plain_name : (part : Part) → IsPlain (part_name part)
plain_name Files = refl
plain_name ColumnStats = refl
plain_name BloomFilters = refl
plain_name RecordIndex = refl

-- the part of a name
read_part : List ℕ → Part
read_part text =
    if bytes_eq text (codes "files") then Files
    else if bytes_eq text (codes "column_stats") then ColumnStats
    else if bytes_eq text (codes "bloom_filters") then BloomFilters
    else RecordIndex

read_part-again : (part : Part) → read_part (part_name part) ≡ part
unfolding read_part
read_part-again Files = refl
read_part-again ColumnStats = refl
read_part-again BloomFilters = refl
read_part-again RecordIndex = refl

pub part_name-injective : (a b : Part) → part_name a ≡ part_name b → a ≡ b
part_name-injective a b e = sym (read_part-again a) ∙ ap read_part e ∙ read_part-again b

pub parts_plain : (parts : List Part) → IsPlain (parts_text parts)
parts_plain [] = refl
parts_plain (first ∷ []) = plain_name first
parts_plain (first ∷ second ∷ others) = list_all-append is_plain_byte (part_name first) (44 ∷ parts_text (second ∷ others)) ∙ and_both _ _ (plain_name first) (parts_plain (second ∷ others))

pieces-parts_text : (first : Part) (others : List Part) → slice_split (λ byte. byte == 44) (parts_text (first ∷ others)) ≡ map part_name (first ∷ others)
pieces-parts_text first [] = slice_split_none (λ byte. byte == 44) (part_name first) (All-lacks 44 (part_name first) (no_comma first))
pieces-parts_text first (second ∷ others) =
    slice_split_at (λ byte. byte == 44) (part_name first) 44 (parts_text (second ∷ others)) (All-lacks 44 (part_name first) (no_comma first)) refl
    ∙ ap (λ (rest : List (List ℕ)). part_name first ∷ rest) (pieces-parts_text second others)

pub pieces_of_parts : (parts : List Part) → 0 < length parts → slice_split (λ byte. byte == 44) (parts_text parts) ≡ map part_name parts
pieces_of_parts [] some = absurd (omega (arith, some))
pieces_of_parts (first ∷ others) some = pieces-parts_text first others

same_names : (xs ys : List Part) → map part_name xs ≡ map part_name ys → xs ≡ ys
same_names [] [] e = refl
same_names [] (y ∷ ys) e = absurd (cc e)
same_names (x ∷ xs) [] e = absurd (cc e)
same_names (x ∷ xs) (y ∷ ys) e =
    let first : x ≡ y = part_name-injective x y (cc e) in
    let rest : map part_name xs ≡ map part_name ys = cc e in
    let others : xs ≡ ys = same_names xs ys rest in
    cc (first, others)

pub parts_text-injective : (xs ys : List Part) → 0 < length xs → 0 < length ys → parts_text xs ≡ parts_text ys → xs ≡ ys
parts_text-injective xs ys p q e = same_names xs ys (sym (pieces_of_parts xs p) ∙ ap (slice_split (λ byte. byte == 44)) e ∙ pieces_of_parts ys q)

each_named : (parts : List Part) → AllByRecursion (λ piece. (part : Part) × (piece ≡ part_name part)) (map part_name parts)
each_named [] = tt
each_named (part ∷ parts) = ((part, refl), each_named parts)

-- a text one of whose pieces is no name lists no parts
pub no_parts : (text : List ℕ) (n : ℕ) (piece : List ℕ) → n < length (slice_split (λ byte. byte == 44) text) → piece ≡ get_or (slice_split (λ byte. byte == 44) text) n piece → ((part : Part) → piece ≢ part_name part) → (parts : List Part) → 0 < length parts → text ≢ parts_text parts
no_parts text n piece small is none parts some e =
    let pieces : slice_split (λ byte. byte == 44) text ≡ map part_name parts = ap (slice_split (λ byte. byte == 44)) e ∙ pieces_of_parts parts some in
    let found = All-get_or (λ p. (part : Part) × (p ≡ part_name part)) (map part_name parts) n piece (subst (λ (ps : List (List ℕ)). n < length ps) pieces small) (All-from_recursion (λ p. (part : Part) × (p ≡ part_name part)) (map part_name parts) (each_named parts)) in
    none found.0 (is ∙ ap (λ (ps : List (List ℕ)). get_or ps n piece) pieces ∙ found.1)

-- ---- none or one

pub one_text-injective : (a b : Option Part) → parts_text (option_to_list a) ≡ parts_text (option_to_list b) → a ≡ b
one_text-injective None None e = refl
one_text-injective None (Some part) e = absurd (no_empty part (sym e))
  where
    no_empty : (part : Part) → part_name part ≢ []
    no_empty Files e = absurd (cc e)
    no_empty ColumnStats e = absurd (cc e)
    no_empty BloomFilters e = absurd (cc e)
    no_empty RecordIndex e = absurd (cc e)
one_text-injective (Some part) None e = absurd (no_empty part e)
  where
    no_empty : (part : Part) → part_name part ≢ []
    no_empty Files e = absurd (cc e)
    no_empty ColumnStats e = absurd (cc e)
    no_empty BloomFilters e = absurd (cc e)
    no_empty RecordIndex e = absurd (cc e)
one_text-injective (Some a) (Some b) e = ap Some (part_name-injective a b e)

-- ---- written

parts_text-cons : (first : Part) (others : List Part) → parts_text (first ∷ others) ≡ part_name first ++ flat_map (λ part. 44 ∷ part_name part) others
parts_text-cons first [] = sym (append-nil (part_name first))
parts_text-cons first (second ∷ others) = ap (λ (rest : List ℕ). part_name first ++ 44 ∷ rest) (parts_text-cons second others)

pub put : (old mid new : List ℕ) (parts : List Part) (first : Part) (others : List Part) → parts ≡ first ∷ others → mid ≡ old ++ part_name first → new ≡ mid ++ flat_map (λ part. 44 ∷ part_name part) others → new ≡ old ++ parts_text parts
put old mid new parts first others e first_put others_put =
    let more : List ℕ = flat_map (λ part. 44 ∷ part_name part) others in
    others_put
    ∙ ap (λ (t : List ℕ). t ++ more) first_put
    ∙ append_assoc old (part_name first) more
    ∙ ap (λ (t : List ℕ). old ++ t) (sym (parts_text-cons first others))
    ∙ ap (λ (ps : List Part). old ++ parts_text ps) (sym e)
