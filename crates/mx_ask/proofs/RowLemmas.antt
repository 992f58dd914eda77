-- Rows as JSON are of one reading.
use Rattle.std.proofs.Common.{◌≡◌, arith, cond, true, ◌<◌, List, map, Some, None, refl, ap, sym, ◌∙◌}
use Rattle.std.specs.Prelude.{ℤ, pos, negsuc, Bool, nat_lt, ◌^◌}
use Rattle.std.proofs.lemmas.Bool.Decides.{nat_tests}
use Rattle.std.proofs.lemmas.Int.{ints}
use Rattle.serde_json.specs.Data.{Num, number, unsigned, negative}
use Rattle.serde_json.specs.Find.{as_i64}
use Rattle.serde_json.specs.View.{items_of}
use Rattle.mx_schema.specs.declared.row.RowValue.{RowValue}
use Rattle.mx_schema.specs.declared.row.RowValue.TheVariants as values
use Rattle.mx_ask.specs.Rows.{whole_data, value_data, row_data, rows_data, IsRowValue}
use Rattle.mx_ask.proofs.ItemLemmas.{items-injective}

whole_data-injective : (m n : ℤ) → whole_data m ≡ whole_data n → m ≡ n
whole_data-injective (pos m) (pos n) e = let same : m ≡ n = cc in ap pos same
whole_data-injective (pos m) (negsuc n) e = absurd (cc e)
whole_data-injective (negsuc m) (pos n) e = absurd (cc e)
whole_data-injective (negsuc m) (negsuc n) e = cc

-- an integer is told as nothing else is
other_data : (n : ℤ) (v : RowValue) → whole_data n ≡ value_data v → v ≡ values.Whole n
other_data (pos n) values.Null e = absurd (cc e)
other_data (negsuc n) values.Null e = absurd (cc e)
other_data (pos n) (values.Flag flag) e = absurd (cc e)
other_data (negsuc n) (values.Flag flag) e = absurd (cc e)
other_data (pos n) (values.Text text) e = absurd (cc e)
other_data (negsuc n) (values.Text text) e = absurd (cc e)
other_data n (values.Whole m) e = ap values.Whole (whole_data-injective m n (sym e))

value_data-injective : (a b : RowValue) → value_data a ≡ value_data b → a ≡ b
value_data-injective values.Null values.Null e = refl
value_data-injective values.Null (values.Flag flag) e = absurd (cc e)
value_data-injective values.Null (values.Text text) e = absurd (cc e)
value_data-injective (values.Flag flag) values.Null e = absurd (cc e)
value_data-injective (values.Flag flag) (values.Flag other) e = let same : flag ≡ other = cc in ap values.Flag same
value_data-injective (values.Flag flag) (values.Text text) e = absurd (cc e)
value_data-injective (values.Text text) values.Null e = absurd (cc e)
value_data-injective (values.Text text) (values.Flag flag) e = absurd (cc e)
value_data-injective (values.Text text) (values.Text other) e = let same : text ≡ other = cc in ap values.Text same
value_data-injective (values.Whole n) b e = sym (other_data n b e)
value_data-injective a (values.Whole n) e = other_data n a (sym e)

row_data-injective : (a b : List RowValue) → row_data a ≡ row_data b → a ≡ b
row_data-injective a b e =
    let items : items_of (map value_data a) ≡ items_of (map value_data b) = cc in
    items-injective value_data value_data-injective a b items

pub rows_data-injective : (a b : List (List RowValue)) → rows_data a ≡ rows_data b → a ≡ b
rows_data-injective a b e =
    let items : items_of (map row_data a) ≡ items_of (map row_data b) = cc in
    items-injective row_data row_data-injective a b items

-- ---- numbers of another width

-- a number that is none of 64 bits is no integer of a row
pub none_whole : (n : Num) → as_i64 n ≡ None → (v : RowValue) → IsRowValue v → number n ≡ value_data v → ⊥
none_whole n none values.Null fits e = cc
none_whole n none (values.Flag flag) fits e = cc
none_whole n none (values.Text text) fits e = cc
none_whole n none (values.Whole (pos m)) fits e =
    let same : n ≡ unsigned m = cc in
    let small : m < 2 ^ 63 = omega (arith, ints, fits) in
    let test : nat_lt m (2 ^ 63) ≡ true = grind (arith, nat_tests) in
    absurd (cc (sym (ap (λ (b : Bool). cond b (Some (pos m)) None) test) ∙ sym (ap as_i64 same) ∙ none))
none_whole n none (values.Whole (negsuc m)) fits e =
    let same : n ≡ negative (negsuc m) = cc in
    absurd (cc (sym (ap as_i64 same) ∙ none))
