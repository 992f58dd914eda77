-- Keys in their order, prefixes, and the blocks that first keys tell apart.
use Rattle.std.proofs.Common.{Ordering, Less, Equal, Greater, ◌≡◌, ℕ, zero, suc, ◌-◌, ◌^◌, ◌<◌, ◌≤◌, Bool, true, false, not, ◌&&◌, ◌||◌, List, [], ◌∷◌, length, take, nat_eq, refl, sym, ap, ◌∙◌, arith, inl, inr}
use Rattle.std.specs.Ordering.{nat_cmp, is_lt, ordering_then, ordering_reverse}
use Rattle.std.specs.Cmp.{nat_cmp_is}
use Rattle.std.specs.Cmp.Lexicographic.{slice_cmp}
use Rattle.std.specs.List.{starts_with}
use Rattle.std.proofs.lemmas.Cmp.{nat_list_cmp_total}
use Rattle.std.proofs.lemmas.Bool.{cases_lt, eqb-true, eq-eqb}
use Rattle.std.proofs.lemmas.Map.Lookups.{exact_unsigned}
use Rattle.std.proofs.lemmas.Slice.Eq.{bytes_eq-Decides}
use Rattle.std.proofs.lemmas.List.{take_all}
use Rattle.mx_hfile.specs.Encoding.{rises, Place}
use Rattle.mx_hfile.specs.Ranges.{first_key_at, KeysRise, IsBlockFor, AreAllAbove, CanHold}
use Rattle.mx_hfile.specs.Held.{is_upto, is_through, IsCountOf}
use Rattle.mx_hfile.proofs.OrderLemmas.{is_less, rises-trans, rises-some}
use Rattle.mx_hfile.proofs.DataLemmas.{true_both}

pub not_true : (b : Bool) → not b ≡ true → b ≡ false
not_true true e = absurd cc
not_true false e = refl

pub not_false : (b : Bool) → not b ≡ false → b ≡ true
not_false true e = refl
not_false false e = absurd cc

both_false : (a b : Bool) → (a || b) ≡ false → (a ≡ false) × (b ≡ false)
both_false true b e = absurd cc
both_false false true e = absurd cc
both_false false false e = (refl, refl)

first_true : (a b : Bool) → (a || b) ≡ true → b ≡ false → a ≡ true
first_true true b e f = refl
first_true false true e f = absurd cc
first_true false false e f = absurd cc

second_false : (a b : Bool) → a ≡ true → (a && b) ≡ false → b ≡ false
second_false true b h e = e
second_false false b h e = absurd cc

-- ---- the order

below_by : (o : Ordering) (a b c : List ℕ) → slice_cmp nat_cmp b a ≡ o → is_lt o ≡ false → slice_cmp nat_cmp b c ≡ Less → slice_cmp nat_cmp a c ≡ Less
below_by Less a b c e f lt = absurd cc
below_by Equal a b c e f lt = sym (nat_list_cmp_total.congr b a c e) ∙ lt
below_by Greater a b c e f lt = nat_list_cmp_total.trans a b c (nat_list_cmp_total.antisymm a b ∙ ap ordering_reverse e) lt

-- a key that is not above another, which is below a third
pub rises-upto : (a b c : List ℕ) → rises b a ≡ false → rises b c ≡ true → rises a c ≡ true
rises-upto a b c le lt = ap is_lt (below_by (slice_cmp nat_cmp b a) a b c refl le (is_less (slice_cmp nat_cmp b c) lt))

through_by : (o : Ordering) (a b c : List ℕ) → slice_cmp nat_cmp c b ≡ o → is_lt o ≡ false → slice_cmp nat_cmp a b ≡ Less → slice_cmp nat_cmp a c ≡ Less
through_by Less a b c e f lt = absurd cc
through_by Equal a b c e f lt =
    nat_list_cmp_total.antisymm a c ∙ ap ordering_reverse (nat_list_cmp_total.congr c b a e) ∙ sym (nat_list_cmp_total.antisymm a b) ∙ lt
through_by Greater a b c e f lt = nat_list_cmp_total.trans a b c lt (nat_list_cmp_total.antisymm b c ∙ ap ordering_reverse e)

-- a key that is below another, which is not above a third
pub rises-through : (a b c : List ℕ) → rises a b ≡ true → rises c b ≡ false → rises a c ≡ true
rises-through a b c lt le = ap is_lt (through_by (slice_cmp nat_cmp c b) a b c refl le (is_less (slice_cmp nat_cmp a b) lt))

not_both_by : (o : Ordering) (a b : List ℕ) → slice_cmp nat_cmp a b ≡ o → is_lt o ≡ true → is_lt (slice_cmp nat_cmp b a) ≡ false
not_both_by Less a b e f = ap is_lt (nat_list_cmp_total.antisymm b a ∙ ap ordering_reverse e)
not_both_by Equal a b e f = absurd cc
not_both_by Greater a b e f = absurd cc

pub rises-not_both : (a b : List ℕ) → rises a b ≡ true → rises b a ≡ false
rises-not_both a b lt = not_both_by (slice_cmp nat_cmp a b) a b refl lt

same_by : (o : Ordering) → o ≡ ordering_reverse o → is_lt o ≡ false
same_by Less e = absurd cc
same_by Equal e = refl
same_by Greater e = refl

pub rises-same : (a : List ℕ) → rises a a ≡ false
rises-same a = same_by (slice_cmp nat_cmp a a) (nat_list_cmp_total.antisymm a a)

-- ---- prefixes

pub starts_with-same : (a : List ℕ) → starts_with nat_eq a a ≡ true
starts_with-same a = (bytes_eq-Decides a (take (length a) a)).1 (sym (take_all (length a) a (omega arith)))

nat_cmp-same : (x : ℕ) → nat_cmp x x ≡ Equal
nat_cmp-same x = sym (nat_cmp_is x x Equal refl)

-- a key that begins with a prefix is not below it
pub prefix_not_above : (prefix key : List ℕ) → starts_with nat_eq key prefix ≡ true → rises key prefix ≡ false
prefix_not_above [] [] e = refl
prefix_not_above [] (z ∷ key) e = refl
prefix_not_above (x ∷ prefix) [] e = absurd cc
prefix_not_above (x ∷ prefix) (z ∷ key) e =
    let both = true_both (nat_eq x z) (starts_with nat_eq key prefix) e in
    let same : z ≡ x = sym (eqb-true x z both.0) in
    ap (λ (o : Ordering). is_lt (ordering_then o (slice_cmp nat_cmp key prefix))) (ap (λ (n : ℕ). nat_cmp n x) same ∙ nat_cmp-same x) ∙ prefix_not_above prefix key both.1

behind_step : (o : Ordering) (x y : ℕ) (s t : Ordering) (b : Bool) → nat_cmp x y ≡ o → is_lt (ordering_then o s) ≡ true → (nat_eq x y && b) ≡ false → (b ≡ false → is_lt s ≡ true → is_lt t ≡ true) → is_lt (ordering_then o t) ≡ true
behind_step Less x y s t b e lt f more = refl
behind_step Equal x y s t b e lt f more = more (second_false (nat_eq x y) b (eq-eqb x y (exact_unsigned x y e)) f) lt
behind_step Greater x y s t b e lt f more = absurd cc

-- what is above a prefix and does not begin with it is above each key that does
pub prefix_below : (prefix first key : List ℕ) → starts_with nat_eq key prefix ≡ true → starts_with nat_eq first prefix ≡ false → rises prefix first ≡ true → rises key first ≡ true
prefix_below [] first key is not' lt = absurd cc
prefix_below (x ∷ prefix) [] key is not' lt = absurd cc
prefix_below (x ∷ prefix) (y ∷ first) [] is not' lt = absurd cc
prefix_below (x ∷ prefix) (y ∷ first) (z ∷ key) is not' lt =
    let both = true_both (nat_eq x z) (starts_with nat_eq key prefix) is in
    let same : x ≡ z = eqb-true x z both.0 in
    ap (λ (n : ℕ). is_lt (ordering_then (nat_cmp n y) (slice_cmp nat_cmp key first))) (sym same)
    ∙ behind_step (nat_cmp x y) x y (slice_cmp nat_cmp prefix first) (slice_cmp nat_cmp key first) (starts_with nat_eq first prefix) refl lt not' (λ n l. prefix_below prefix first key both.1 n l)

-- ---- first keys

pub keys-above : (last : List ℕ) (ps : List Place) (j : ℕ) → KeysRise last ps → j < length ps → rises last (first_key_at ps j) ≡ true
keys-above last [] j keys lt = absurd (omega arith)
keys-above last (p ∷ ps) zero keys lt = keys.0
keys-above last (p ∷ ps) (suc j) keys lt = rises-trans last p.key (first_key_at ps j) keys.0 (keys-above p.key ps j keys.2 (omega arith))

pub keys-rise : (last : List ℕ) (ps : List Place) (i j : ℕ) → KeysRise last ps → i < j → j < length ps → rises (first_key_at ps i) (first_key_at ps j) ≡ true
keys-rise last [] i j keys lt in' = absurd (omega arith)
keys-rise last (p ∷ ps) i zero keys lt in' = absurd (omega arith)
keys-rise last (p ∷ ps) zero (suc j) keys lt in' = keys-above p.key ps j keys.2 (omega arith)
keys-rise last (p ∷ ps) (suc i) (suc j) keys lt in' = keys-rise p.key ps i j keys.2 (omega arith) (omega arith)

pub keys-fit : (last : List ℕ) (ps : List Place) (j : ℕ) → KeysRise last ps → j < length ps → length (first_key_at ps j) < 2 ^ 16
keys-fit last [] j keys lt = absurd (omega arith)
keys-fit last (p ∷ ps) zero keys lt = keys.1
keys-fit last (p ∷ ps) (suc j) keys lt = keys-fit p.key ps j keys.2 (omega arith)

-- the tests pass at each first key before one where they pass
pub upto_down : (key first next : List ℕ) → rises first next ≡ true → is_upto key next ≡ true → is_upto key first ≡ true
upto_down key first next lt is = ap not (rises-not_both first key (rises-through first next key lt (not_true (rises key next) is)))

through_by_tests : (a b : Bool) (prefix first next : List ℕ) → starts_with nat_eq first prefix ≡ a → rises prefix first ≡ b → rises first next ≡ true → is_through prefix next ≡ true → (a || not b) ≡ true
through_by_tests true b prefix first next s r lt is = refl
through_by_tests false false prefix first next s r lt is = refl
through_by_tests false true prefix first next s r lt is =
    let above = rises-trans prefix first next r lt in
    let begins = first_true (starts_with nat_eq next prefix) (not (rises prefix next)) is (ap not above) in
    let back = prefix_below prefix first next begins s r in
    let fore = rises-not_both first next lt in
    absurd cc

pub through_down : (prefix first next : List ℕ) → rises first next ≡ true → is_through prefix next ≡ true → is_through prefix first ≡ true
through_down prefix first next lt is = through_by_tests (starts_with nat_eq first prefix) (rises prefix first) prefix first next refl refl lt is

-- ---- the block of a key

pub last_upto : (ps : List Place) (key : List ℕ) (count : ℕ) → IsCountOf (is_upto key) ps count → 0 < count → IsBlockFor ps key (count - 1)
last_upto ps key count is some =
    let within = is.within in
    record {
      there = omega (arith, within, some);
      not_above = not_true (rises key (first_key_at ps (count - 1))) (is.front (count - 1) (omega (arith, some)));
      last = λ other lt in'. not_false (rises key (first_key_at ps other)) (is.back other (omega (arith, lt, some)) in');
    }

pub all_above : (ps : List Place) (key : List ℕ) (count : ℕ) → IsCountOf (is_upto key) ps count → count ≡ 0 → AreAllAbove ps key
all_above ps key count is none = λ block lt. not_false (rises key (first_key_at ps block)) (is.back block (omega (arith, none)) lt)

-- ---- the blocks of a prefix

upto-end : (ps : List Place) (prefix : List ℕ) (upto end : ℕ) → IsCountOf (is_upto prefix) ps upto → IsCountOf (is_through prefix) ps end → upto ≤ end
upto-end ps prefix upto end u t =
    elim (cases_lt end upto) [
      | inl lt ↦
          let within = u.within in
          let front = u.front end lt in
          let back = both_false (starts_with nat_eq (first_key_at ps end) prefix) (not (rises prefix (first_key_at ps end))) (t.back end (omega arith) (omega (arith, within, lt))) in
          absurd cc
      | inr le ↦ le
    ]

pub hold_within : (ps : List Place) (prefix : List ℕ) (upto end block : ℕ) → IsCountOf (is_upto prefix) ps upto → IsCountOf (is_through prefix) ps end → CanHold ps prefix block → (upto - 1 ≤ block) × (block < end)
hold_within ps prefix upto end block u t c =
    let first = first_key_at ps block in
    let next = first_key_at ps (suc block) in
    let low : upto - 1 ≤ block =
    elim (cases_lt block (upto - 1)) [
      | inl lt ↦
          let within = u.within in
          let front = not_true (rises prefix next) (u.front (suc block) (omega (arith, lt))) in
          let below = c.below_next (omega (arith, lt, within)) in
          let less = rises-through c.key next prefix below front in
          let not_less = prefix_not_above prefix c.key c.begins in
          absurd cc
      | inr le ↦ le
    ] in
    let high : block < end =
    elim (cases_lt block end) [
      | inl lt ↦ lt
      | inr le ↦
          let back = both_false (starts_with nat_eq first prefix) (not (rises prefix first)) (t.back block le c.there) in
          let above = prefix_below prefix first c.key c.begins back.0 (not_false (rises prefix first) back.1) in
          let from = c.from_first in
          absurd cc
    ] in
    (low, high)

pub within_hold : (ps : List Place) (prefix : List ℕ) (upto end block : ℕ) → KeysRise [] ps → length prefix < 2 ^ 16 → IsCountOf (is_upto prefix) ps upto → IsCountOf (is_through prefix) ps end → (upto - 1 ≤ block) × (block < end) → CanHold ps prefix block
within_hold ps prefix upto end block keys fits u t range =
    let first = first_key_at ps block in
    let within = t.within in
    let there : block < length ps = omega (arith, within, range.1) in
    let some = keys-above [] ps block keys there in
    elim (cases_lt block upto) [
      | inl lt ↦
          let front : rises prefix first ≡ false = not_true (rises prefix first) (u.front block lt) in
          record {
            there = there;
            key = prefix;
            is_key = (rises-some [] prefix (rises-through [] first prefix some front), fits);
            begins = starts_with-same prefix;
            from_first = front;
            below_next = λ in'. not_false (rises prefix (first_key_at ps (suc block))) (u.back (suc block) (omega (arith, range.0)) in');
          }
      | inr le ↦
          let above : rises prefix first ≡ true = not_false (rises prefix first) (u.back block le there) in
          record {
            there = there;
            key = first;
            is_key = (rises-some [] first some, keys-fit [] ps block keys there);
            begins = first_true (starts_with nat_eq first prefix) (not (rises prefix first)) (t.front block range.1) (ap not above);
            from_first = rises-same first;
            below_next = λ in'. keys-rise [] ps block (suc block) keys (omega arith) in';
          }
    ]

pub none_within : (ps : List Place) (prefix : List ℕ) (upto end : ℕ) → IsCountOf (is_upto prefix) ps upto → IsCountOf (is_through prefix) ps end → end ≤ upto - 1 → (upto - 1 ≡ 0) × (end ≡ 0)
none_within ps prefix upto end u t le = let le' = upto-end ps prefix upto end u t in (omega (arith, le, le'), omega (arith, le, le'))

-- no key is so long that it begins with the prefix
pub prefix-length : (prefix key : List ℕ) → starts_with nat_eq key prefix ≡ true → length prefix ≤ length key
prefix-length [] key e = omega arith
prefix-length (x ∷ prefix) [] e = absurd cc
prefix-length (x ∷ prefix) (z ∷ key) e = let both = true_both (nat_eq x z) (starts_with nat_eq key prefix) e in omega (arith, prefix-length prefix key both.1)
