-- The value of a key is found in its block, and in no other.
use Rattle.std.proofs.Common.{◌≡◌, ℕ, ◌+◌, ◌-◌, ◌≤◌, Bool, true, false, cond, eqb, List, [], ◌∷◌, ◌++◌, length, take, drop, Option, Some, None, Ok, append_assoc, length-append, refl, sym, ap, subst, ◌∙◌, arith}
use Rattle.std.specs.Prelude.{option_map, find}
use Rattle.std.specs.Int.{w16, w32}
use Rattle.std.specs.List.{AllByRecursion}
use Rattle.std.proofs.lemmas.Bool.{le-ltb}
use Rattle.std.proofs.lemmas.Bool.Decides.{nat_tests}
use Rattle.std.proofs.lemmas.Slice.Eq.{bytes_eq-Decides}
use Rattle.std.proofs.lemmas.List.Concat.{flat_map-cons}
use Rattle.std.proofs.Math.Seq.{drop-append_seam, take-append_seam}
use Rattle.mx_base.specs.declared.entry.Entry.{Entry}
use Rattle.mx_hfile.specs.Encoding.{number, data_magic, rises, RiseFrom, HasKey, entry_bytes, body, block}
use Rattle.mx_hfile.specs.Decoding.{is_same}
use Rattle.mx_hfile.specs.Division.{BeginInTime, IsBlock}
use Rattle.mx_hfile.specs.Ranges.{block_alone_in, value_place, search_in}
use Rattle.mx_hfile.specs.Found.{bytes_between, value_of, found_in}
use Rattle.mx_hfile.proofs.FieldLemmas.{wide16, wide32}
use Rattle.mx_hfile.proofs.DividingLemmas.{entry-length, block-length}
use Rattle.mx_hfile.proofs.DivisionLemmas.{body-first}
use Rattle.mx_hfile.proofs.OrderLemmas.{rises-trans}
use Rattle.mx_hfile.proofs.KeyLemmas.{rises-same}
use Rattle.mx_hfile.proofs.DataLemmas.{magic-length, values_fit, body_again, entries_again}

-- ---- in a block

seam : (a b bytes : List ℕ) (n m : ℕ) → bytes ≡ a ++ b → n ≡ length a → take m (drop n bytes) ≡ take m b
seam a b bytes n m is at = ap (λ (x : List ℕ). take m (drop n x)) is ∙ ap (λ (k : ℕ). take m (drop k (a ++ b))) at ∙ ap (take m) (drop-append_seam a b)

value_here : (pre : List ℕ) (e : Entry) (es : List Entry) (at : ℕ) → at ≡ length pre → bytes_between (pre ++ body (e ∷ es)) (at + (6 + length e.key), at + length (entry_bytes e)) ≡ e.value
value_here pre e es at is =
    let front = pre ++ (number w16 (length e.key) ++ e.key ++ number w32 (length e.value)) in
    let bytes : pre ++ body (e ∷ es) ≡ front ++ (e.value ++ body es) =
    ap (λ (x : List ℕ). pre ++ x) (flat_map-cons entry_bytes e es ∙ append_assoc (number w16 (length e.key) ++ e.key ++ number w32 (length e.value)) e.value (body es))
    ∙ sym (append_assoc pre (number w16 (length e.key) ++ e.key ++ number w32 (length e.value)) (e.value ++ body es)) in
    let len : at + (6 + length e.key) ≡ length front =
    omega (arith, is, length-append pre (number w16 (length e.key) ++ e.key ++ number w32 (length e.value)), length-append (number w16 (length e.key) ++ e.key) (number w32 (length e.value)), length-append (number w16 (length e.key)) e.key, wide16.len (length e.key), wide32.len (length e.value)) in
    let size : at + length (entry_bytes e) - (at + (6 + length e.key)) ≡ length e.value = omega (arith, entry-length e) in
    seam front (e.value ++ body es) (pre ++ body (e ∷ es)) (at + (6 + length e.key)) (at + length (entry_bytes e) - (at + (6 + length e.key))) bytes len
    ∙ ap (λ (n : ℕ). take n (e.value ++ body es)) size ∙ take-append_seam e.value (body es)

value_step : (b : Bool) (f : ℕ × ℕ → List ℕ) (x : ℕ × ℕ) (e : Entry) (rest : Option (ℕ × ℕ)) (others : Option Entry) → f x ≡ e.value → option_map f rest ≡ option_map (λ (o : Entry). o.value) others
    → option_map f (cond b (Some x) rest) ≡ option_map (λ (o : Entry). o.value) (cond b (Some e) others)
value_step true f x e rest others here more = ap (λ (v : List ℕ). Some v) here
value_step false f x e rest others here more = more

value_among : (key pre : List ℕ) (es : List Entry) (at : ℕ) → at ≡ length pre → option_map (bytes_between (pre ++ body es)) (value_place key at es) ≡ value_of key es
value_among key pre [] at is = refl
value_among key pre (e ∷ es) at is =
    let bytes : (pre ++ entry_bytes e) ++ body es ≡ pre ++ body (e ∷ es) = append_assoc pre (entry_bytes e) (body es) ∙ sym (ap (λ (x : List ℕ). pre ++ x) (flat_map-cons entry_bytes e es)) in
    let more = value_among key (pre ++ entry_bytes e) es (at + length (entry_bytes e)) (omega (arith, is, length-append pre (entry_bytes e))) in
    value_step (is_same e.key key) (bytes_between (pre ++ body (e ∷ es))) (at + (6 + length e.key), at + length (entry_bytes e)) e (value_place key (at + length (entry_bytes e)) es) (find (λ (o : Entry). is_same o.key key) es)
    (value_here pre e es at is) (sym (ap (λ (x : List ℕ). option_map (bytes_between x) (value_place key (at + length (entry_bytes e)) es)) bytes) ∙ more)

pub block_alone : (b : List Entry) → RiseFrom [] b → AllByRecursion HasKey b → IsBlock b → length (block b) ≤ 268_435_456 → block_alone_in (block b) ≡ Ok b
unfolding block_alone_in
block_alone [] rise keys is le = let some = is.some in absurd (omega (arith, some))
block_alone (e ∷ es) rise keys is le =
    let b : List Entry = e ∷ es in
    let len = block-length b in
    let some : eqb (length (body b)) 0 ≡ false = let first = body-first e es in let size = entry-length e in grind (arith, nat_tests, first, size) in
    let at : 0 ≡ length (body b) - length (body b) = omega arith in
    rw (le-ltb 268_435_456 (length (block b)) le, body_again b, some)
    (entries_again (length (body b)) (length (body b)) [] b rise keys (values_fit b (omega (arith, len, le))) (omega arith) (subst (λ (n : ℕ). BeginInTime n b) at is.begin) (omega arith))

pub found_block : (key : List ℕ) (b : List Entry) → block_alone_in (block b) ≡ Ok b → found_in key (block b) ≡ Ok (value_of key b)
unfolding search_in
found_block key b read =
    let pre = data_magic ++ number w32 (length (body b)) in
    let at : 12 ≡ length pre = omega (arith, length-append data_magic (number w32 (length (body b))), magic-length, wide32.len (length (body b))) in
    rw read (ap (λ (x : Option (List ℕ)). Ok x) (value_among key pre b 12 at))

-- ---- among all entries

unlike : (e : Entry) (key : List ℕ) → rises key e.key ≡ true → is_same e.key key ≡ false
unlike e key lt = by_test (is_same e.key key) refl
  where
    by_test : (b : Bool) → is_same e.key key ≡ b → b ≡ false
    by_test false is = refl
    by_test true is =
        let same : e.key ≡ key = (bytes_eq-Decides e.key key).0 is in
        let none = rises-same key in
        let lt' = subst (λ (k : List ℕ). rises key k ≡ true) same lt in
        absurd cc

passed_over : (key : List ℕ) (e : Entry) (es : List Entry) → is_same e.key key ≡ false → value_of key (e ∷ es) ≡ value_of key es
passed_over key e es not' = ap (λ (b : Bool). option_map (λ (o : Entry). o.value) (cond b (Some e) (find (λ (o : Entry). is_same o.key key) es))) not'

-- nothing that rises behind what is above a key has the key
none_above : (key last : List ℕ) (es : List Entry) → rises key last ≡ true → RiseFrom last es → value_of key es ≡ None
none_above key last [] above rise = refl
none_above key last (e ∷ es) above rise =
    let above' = rises-trans key last e.key above rise.0 in
    passed_over key e es (unlike e key above') ∙ none_above key e.key es above' rise.1

pub none_from : (key last : List ℕ) (e : Entry) (es : List Entry) → rises key e.key ≡ true → RiseFrom last (e ∷ es) → value_of key (e ∷ es) ≡ None
none_from key last e es above rise = passed_over key e es (unlike e key above) ∙ none_above key e.key es above rise.1

-- what stands in front of an entry is below it
pub rise-to : (last : List ℕ) (a : List Entry) (e : Entry) (es : List Entry) → RiseFrom last (a ++ e ∷ es) → rises last e.key ≡ true
rise-to last [] e es rise = rise.0
rise-to last (x ∷ a) e es rise = rises-trans last x.key e.key rise.0 (rise-to x.key a e es rise.1)

below_unlike : (x e : Entry) (key : List ℕ) → rises x.key e.key ≡ true → rises key e.key ≡ false → is_same x.key key ≡ false
below_unlike x e key lt not' = by_test (is_same x.key key) refl
  where
    by_test : (b : Bool) → is_same x.key key ≡ b → b ≡ false
    by_test false is = refl
    by_test true is =
        let same : x.key ≡ key = (bytes_eq-Decides x.key key).0 is in
        let lt' = subst (λ (k : List ℕ). rises k e.key ≡ true) same lt in
        absurd cc

pub front_over : (key last : List ℕ) (a : List Entry) (e : Entry) (es : List Entry) → RiseFrom last (a ++ e ∷ es) → rises key e.key ≡ false → value_of key (a ++ e ∷ es) ≡ value_of key (e ∷ es)
front_over key last [] e es rise not' = refl
front_over key last (x ∷ a) e es rise not' =
    passed_over key x (a ++ e ∷ es) (below_unlike x e key (rise-to x.key a e es rise.1) not') ∙ front_over key x.key a e es rise.1 not'

back_step : (b : Bool) (e : Entry) (x y : Option Entry) → option_map (λ (o : Entry). o.value) x ≡ option_map (λ (o : Entry). o.value) y → option_map (λ (o : Entry). o.value) (cond b (Some e) x) ≡ option_map (λ (o : Entry). o.value) (cond b (Some e) y)
back_step true e x y is = refl
back_step false e x y is = is

pub back_over : (key : List ℕ) (a b : List Entry) → value_of key b ≡ None → value_of key (a ++ b) ≡ value_of key a
back_over key [] b none = none
back_over key (e ∷ a) b none = back_step (is_same e.key key) e (find (λ (o : Entry). is_same o.key key) (a ++ b)) (find (λ (o : Entry). is_same o.key key) a) (back_over key a b none)
