-- What holds of objects, and of readers over them.
use Rattle.std.proofs.Common.{◌≡◌, ℕ, ◌+◌, ◌≤◌, ◌<◌, Bool, true, false, List, [], ◌∷◌, ◌++◌, length, take, drop, append_assoc, get_or, map, All, Option, Some, None, Ordering, Less, Equal, Greater, refl, sym, ap, ◌∙◌, subst, arith}
use Rattle.std.proofs.lemmas.List.{take_more, drop_more, map_push}
use Rattle.std.proofs.lemmas.List.Elements.{All-push}
use Rattle.std.specs.Prelude.{◌||◌, if◌then◌else◌, is_some, option_and_then, option_map, IsUtf8}
use Rattle.std.specs.Ordering.{nat_cmp, match_ordering}
use Rattle.std.specs.Cmp.Lexicographic.{slice_cmp, pointwise}
use Rattle.std.specs.Str.{is_utf8, bytes_eq}
use Rattle.std.proofs.lemmas.Str.{is_utf8-from_IsUtf8, IsUtf8-from_is_utf8}
use Rattle.serde_json.specs.Data.{Data, depth, members_depth, Members, no_members, member, put}
use Rattle.serde_json.specs.Find.{as_object}
use Rattle.serde_json.specs.declared.value.Value.{Value}
use Rattle.serde_json.specs.View.{view, items_of, items_view}
use Rattle.serde_json.specs.Read.{read}
use Rattle.serde_json.specs.Written.{has_float, members_have_float}
use Rattle.mx_meta.specs.Json.{json_of, names_of, with_names, each_in}

pub neither : (a b : Bool) → a ≡ false → b ≡ false → (a || b) ≡ false
neither false b here there = there
neither true b here there = absurd (cc here)

pub first_not : (a b : Bool) → (a || b) ≡ false → a ≡ false
first_not false b is = refl
first_not true b is = absurd (cc is)

pub second_not : (a b : Bool) → (a || b) ≡ false → b ≡ false
second_not false b is = is
second_not true b is = absurd (cc is)

-- a member put into an object without floats
pub put_no_float : (name : List ℕ) (d : Data) (ms : Members) → has_float d ≡ false → members_have_float ms ≡ false → members_have_float (put name d ms) ≡ false
put_no_float name d no_members here there = neither (has_float d) false here refl
put_no_float name d (member other e ms) here there =
    by_order (slice_cmp nat_cmp name other) (first_not (has_float e) (members_have_float ms) there) (second_not (has_float e) (members_have_float ms) there)
    (put_no_float name d ms here (second_not (has_float e) (members_have_float ms) there))
  where
    by_order : (o : Ordering) → has_float e ≡ false → members_have_float ms ≡ false → members_have_float (put name d ms) ≡ false →
        members_have_float (match_ordering o (member name d (member other e ms)) (member other d ms) (member other e (put name d ms))) ≡ false
    by_order Less first rest deep = neither (has_float d) _ here (neither (has_float e) (members_have_float ms) first rest)
    by_order Equal first rest deep = neither (has_float d) (members_have_float ms) here rest
    by_order Greater first rest deep = neither (has_float e) (members_have_float (put name d ms)) first deep

-- and how deep it nests
pub put_depth : (name : List ℕ) (d : Data) (ms : Members) (n : ℕ) → depth d ≤ n → members_depth ms ≤ n → members_depth (put name d ms) ≤ n
put_depth name d no_members n here there = omega (arith, here)
put_depth name d (member other e ms) n here there =
    by_order (slice_cmp nat_cmp name other) (put_depth name d ms n here (omega (arith, there)))
  where
    by_order : (o : Ordering) → members_depth (put name d ms) ≤ n →
        members_depth (match_ordering o (member name d (member other e ms)) (member other d ms) (member other e (put name d ms))) ≤ n
    by_order Less deep = omega (arith, here, there)
    by_order Equal deep = omega (arith, here, there)
    by_order Greater deep = omega (arith, there, deep)

-- what is read of every value, where each reads as what it was made of
pub each_in-map : {T : Type 0} (f : Data → Option T) (data_of : T → Data) (xs : List T) → ((x : T) → f (data_of x) ≡ Some x) → each_in f (items_of (map data_of xs)) ≡ Some xs
each_in-map f data_of [] reads = refl
each_in-map {T} f data_of (x ∷ xs) reads =
    ap (λ (o : Option T). option_and_then (λ y. option_map (λ ys. y ∷ ys) (each_in f (items_of (map data_of xs)))) o) (reads x)
    ∙ ap (λ (o : Option (List T)). option_map (λ ys. x ∷ ys) o) (each_in-map f data_of xs reads)

pub json_of-read : (bytes : List ℕ) (d : Data) → IsUtf8 bytes → read bytes ≡ Some d → json_of bytes ≡ Some d
unfolding json_of
json_of-read bytes d utf8 reads = ap (λ (b : Bool). if b then read bytes else None) (is_utf8-from_IsUtf8 bytes utf8) ∙ reads

-- ---- one more of a list

next_taken : {X : Type 0} (xs : List X) (i : ℕ) (x : X) → i < length xs → x ≡ get_or xs i x → take (i + 1) xs ≡ take i xs ++ x ∷ []
next_taken xs i x within is = take_more xs i x within ∙ ap (λ y. take i xs ++ y ∷ []) (sym is)

next_dropped : {X : Type 0} (xs : List X) (i : ℕ) (x : X) → i < length xs → x ≡ get_or xs i x → drop i xs ≡ x ∷ drop (i + 1) xs
next_dropped xs i x within is = drop_more xs i x within ∙ ap (λ y. y ∷ drop (i + 1) xs) (sym is)

-- one more value made
pub made_more : {X V D : Type 0} (shown : V → D) (data_of : X → D) (values more : List V) (v : V) (xs : List X) (i : ℕ) (x : X) →
    more ≡ values ++ v ∷ [] → map shown values ≡ map data_of (take i xs) → shown v ≡ data_of x → i < length xs → x ≡ get_or xs i x → map shown more ≡ map data_of (take (i + 1) xs)
made_more {X} {V} {D} shown data_of values more v xs i x pushed made here within is =
    ap (map shown) pushed ∙ map_push shown values v ∙ ap (λ (ds : List D). ds ++ shown v ∷ []) made ∙ ap (λ (d : D). map data_of (take i xs) ++ d ∷ []) here
    ∙ sym (ap (map data_of) (next_taken xs i x within is) ∙ map_push data_of (take i xs) x)

-- one more that is so
pub named_more : {X : Type 0} (P : X → Type 0) (xs : List X) (i : ℕ) (x : X) → All P (take i xs) → P x → i < length xs → x ≡ get_or xs i x → All P (take (i + 1) xs)
named_more P xs i x named here within is = subst (All P) (sym (next_taken xs i x within is)) (All-push P (take i xs) x named here)

-- ---- reading

-- a value that has the names is read as itself
pub with_names_is : (names : List (List ℕ)) (d : Data) → is_some (with_names names d) ≡ true → with_names names d ≡ Some d
with_names_is names d is = from (as_object d) is
  where
    from : (o : Option Members) → is_some (option_and_then (λ ms. if pointwise bytes_eq (names_of ms) names then Some d else None) o) ≡ true →
        option_and_then (λ ms. if pointwise bytes_eq (names_of ms) names then Some d else None) o ≡ Some d
    from None is = absurd (cc is)
    from (Some ms) is = chosen (pointwise bytes_eq (names_of ms) names) is
      where
        chosen : (b : Bool) → is_some {T = Data} (if b then Some d else None) ≡ true → (if b then Some d else None) ≡ Some d
        chosen true is = refl
        chosen false is = absurd (cc is)

pub with_names_none : (names : List (List ℕ)) (d : Data) → is_some (with_names names d) ≡ false → with_names names d ≡ None
with_names_none names d is = none (with_names names d) is
  where
    none : (o : Option Data) → is_some o ≡ false → o ≡ None
    none None is = refl
    none (Some e) is = absurd (cc is)

pub json_of_none : (bytes : List ℕ) → (IsUtf8 bytes → read bytes ≡ None) → json_of bytes ≡ None
unfolding json_of
json_of_none bytes refused = chosen (is_utf8 bytes) (λ is. refused (IsUtf8-from_is_utf8 bytes is))
  where
    chosen : (b : Bool) → (b ≡ true → read bytes ≡ None) → (if b then read bytes else None) ≡ None
    chosen true none = none refl
    chosen false none = refl

-- one more item, of which something is read
pub each_in_more : {T : Type 0} (f : Data → Option T) (items : List Value) (whole : Option (List T)) (old new : List T) (x : T) (i : ℕ) (v : Value) →
    option_map (λ more. old ++ more) (each_in f (items_view (drop i items))) ≡ whole → Some x ≡ f (view v) → new ≡ old ++ x ∷ [] → i < length items → v ≡ get_or items i v →
    option_map (λ more. new ++ more) (each_in f (items_view (drop (i + 1) items))) ≡ whole
each_in_more {T} f items whole old new x i v so_far reads pushed within is =
    ap (λ (l : List T). option_map (λ more. l ++ more) (each_in f (items_view (drop (i + 1) items)))) pushed
    ∙ sym (joined (each_in f (items_view (drop (i + 1) items))))
    ∙ ap (λ (o : Option T). option_map (λ more. old ++ more) (option_and_then (λ y. option_map (λ ys. y ∷ ys) (each_in f (items_view (drop (i + 1) items)))) o)) reads
    ∙ sym (ap (λ (l : List Value). option_map (λ more. old ++ more) (each_in f (items_view l))) (next_dropped items i v within is))
    ∙ so_far
  where
    joined : (rest : Option (List T)) → option_map (λ more. old ++ more) (option_map (λ ys. x ∷ ys) rest) ≡ option_map (λ more. (old ++ x ∷ []) ++ more) rest
    joined None = refl
    joined (Some ys) = ap (λ (l : List T). Some l) (sym (append_assoc old (x ∷ []) ys))

-- an item of which nothing is read
pub each_in_none : {T : Type 0} (f : Data → Option T) (items : List Value) (whole : Option (List T)) (old : List T) (i : ℕ) (v : Value) →
    option_map (λ more. old ++ more) (each_in f (items_view (drop i items))) ≡ whole → None ≡ f (view v) → i < length items → v ≡ get_or items i v → None ≡ whole
each_in_none {T} f items whole old i v so_far refused within is =
    ap (λ (o : Option T). option_map (λ more. old ++ more) (option_and_then (λ y. option_map (λ ys. y ∷ ys) (each_in f (items_view (drop (i + 1) items)))) o)) refused
    ∙ sym (ap (λ (l : List Value). option_map (λ more. old ++ more) (each_in f (items_view l))) (next_dropped items i v within is))
    ∙ so_far
