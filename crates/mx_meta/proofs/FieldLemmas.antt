-- Where the fields of an object part from those that it is to have.
use Rattle.std.proofs.Common.{◌≡◌, ℕ, Bool, true, false, List, [], ◌∷◌, ◌&&◌, map, not, Option, Some, None, is_none, Ordering, Less, Equal, Greater, string_bytes, string_cmp, refl, sym, ap, ◌∙◌, subst}
use Rattle.std.specs.Ordering.{ordering_reverse, is_lt}
use Rattle.std.specs.Prelude.{is_some, if◌then◌else◌, String, IsUtf8, option_map, option_and_then}
use Rattle.std.specs.declared.alloc.Global.{Global}
use Rattle.std.specs.List.{AllByRecursion, list_all}
use Rattle.std.specs.List.Sorted.{IsStrictlySortedBy}
use Rattle.std.specs.Map.{keys_of}
use Rattle.std.specs.Ordering.{nat_cmp, match_ordering}
use Rattle.std.specs.Cmp.Lexicographic.{slice_cmp, pointwise}
use Rattle.std.specs.Str.{bytes_eq}
use Rattle.std.proofs.lemmas.Cmp.{nat_list_cmp_total, tied_itself}
use Rattle.std.proofs.lemmas.Map.Lookups.{exact_bytes}
use Rattle.std.proofs.lemmas.Slice.Eq.{bytes_eq-Decides}
use Rattle.serde_json.specs.Data.{Data, null, boolean, number, string, array, object, Members, no_members, member}
use Rattle.serde_json.specs.Find.{get, get_member, as_object}
use Rattle.serde_json.specs.Read.{read}
use Rattle.serde_json.specs.View.{members_view}
use Rattle.serde_json.specs.declared.value.Value.{Value}
use Rattle.mx_meta.specs.Json.{names_of}
use Rattle.mx_meta.specs.Fields.{Field, with_fields, is_bad, IsFault, object_of}
use Rattle.mx_meta.specs.Rising.{rises_from, is_rising, bytes_below}
use Rattle.mx_meta.specs.Walk.{first_bad}
use Rattle.mx_meta.proofs.JsonLemmas.{json_of-read, json_of_none}

-- ---- names

abbrev IsBefore : List ℕ → List (List ℕ) → Type 0
IsBefore name names = AllByRecursion (λ other. slice_cmp nat_cmp name other ≡ Less) names

abbrev field_names : List Field → List (List ℕ)
field_names fields = map (λ f. f.name) fields

-- the names of a map's entries rise
pub names_sorted : (es : List (String Global × Value)) → IsStrictlySortedBy string_cmp (keys_of es) → IsStrictlySortedBy (slice_cmp nat_cmp) (names_of (members_view es))
unfolding IsStrictlySortedBy
names_sorted [] rising = tt
names_sorted (e ∷ es) rising = (each es rising.0, names_sorted es rising.1)
  where
    each : (es : List (String Global × Value)) → AllByRecursion (λ other. string_cmp e.0 other ≡ Less) (keys_of es) → IsBefore (string_bytes e.0) (names_of (members_view es))
    each [] less = tt
    each (f ∷ es) less = (less.0, each es less.1)

itself : (name : List ℕ) → slice_cmp nat_cmp name name ≡ Equal
itself name = tied_itself nat_list_cmp_total name

same_itself : (name : List ℕ) → bytes_eq name name ≡ true
same_itself name = (bytes_eq-Decides name name).1 refl

-- equal texts stand at one place
tied : (x y : List ℕ) → bytes_eq x y ≡ true → slice_cmp nat_cmp x y ≡ Equal
tied x y same = ap (slice_cmp nat_cmp x) (sym ((bytes_eq-Decides x y).0 same)) ∙ itself x

-- a text is not one that stands behind it
not_later : (x y : List ℕ) → slice_cmp nat_cmp x y ≡ Less → bytes_eq y x ≡ false
not_later x y less = unequal (bytes_eq y x) refl
  where
    unequal : (b : Bool) → bytes_eq y x ≡ b → bytes_eq y x ≡ false
    unequal false is = is
    unequal true is = absurd (cc (ap (slice_cmp nat_cmp x) ((bytes_eq-Decides y x).0 is) ∙ itself x, less))

less_from_is_lt : (o : Ordering) → is_lt o ≡ true → o ≡ Less
less_from_is_lt Less is = refl
less_from_is_lt Equal is = absurd (cc is)
less_from_is_lt Greater is = absurd (cc is)

first_holds : (a b : Bool) → (a && b) ≡ true → a ≡ true
first_holds true b is = refl
first_holds false b is = absurd (cc is)

second_holds : (a b : Bool) → (a && b) ≡ true → b ≡ true
second_holds true b is = is
second_holds false b is = absurd (cc is)

-- what stands before a name stands before those behind it
before_all : (x y : List ℕ) (names : List (List ℕ)) → slice_cmp nat_cmp x y ≡ Less → IsBefore y names → IsBefore x names
before_all x y [] less all = tt
before_all x y (name ∷ names) less all = (nat_list_cmp_total.trans x y name less all.0, before_all x y names less all.1)

-- a list that rises is sorted
pub sorted_from_rising : (names : List (List ℕ)) → is_rising bytes_below names ≡ true → IsStrictlySortedBy (slice_cmp nat_cmp) names
unfolding IsStrictlySortedBy
sorted_from_rising [] rising = tt
sorted_from_rising (name ∷ names) rising = from name names rising
  where
    from : (name : List ℕ) (names : List (List ℕ)) → rises_from bytes_below name names ≡ true → IsBefore name names × IsStrictlySortedBy (slice_cmp nat_cmp) names
    from name [] rising = (tt, tt)
    from name (other ∷ names) rising =
        let less : slice_cmp nat_cmp name other ≡ Less = less_from_is_lt (slice_cmp nat_cmp name other) (first_holds _ _ rising) in
        let rest = from other names (second_holds (bytes_below name other) _ rising) in
        ((less, before_all name other names less rest.0), rest)

-- ---- members

get_before : (x : List ℕ) (ms : Members) → IsBefore x (names_of ms) → get_member x ms ≡ None
get_before x no_members before = refl
get_before x (member name d ms) before = ap (λ (o : Ordering). match_ordering o (get_member x ms) (Some d) (get_member x ms)) before.0 ∙ get_before x ms before.1

get_first : (name : List ℕ) (d : Data) (ms : Members) → get_member name (member name d ms) ≡ Some d
get_first name d ms = ap (λ (o : Ordering). match_ordering o (get_member name ms) (Some d) (get_member name ms)) (itself name)

get_other : (x name : List ℕ) (d : Data) (ms : Members) → bytes_eq name x ≡ false → get_member x (member name d ms) ≡ get_member x ms
get_other x name d ms other = by_order (slice_cmp nat_cmp x name) refl
  where
    by_order : (o : Ordering) → slice_cmp nat_cmp x name ≡ o → match_ordering o (get_member x ms) (Some d) (get_member x ms) ≡ get_member x ms
    by_order Less is = refl
    by_order Equal is = absurd (cc (other, ap (bytes_eq name) (exact_bytes x name is) ∙ same_itself name))
    by_order Greater is = refl

-- ---- bad names

-- a name that stands before all that are expected is not expected
bad_before : (fields : List Field) (d : Data) (x : List ℕ) → IsBefore x (field_names fields) → is_bad fields d x ≡ is_some (get x d)
bad_before [] d x before = refl
bad_before (f ∷ fields) d x before =
    ap (λ (b : Bool). if b then not (is_some (get x d) && f.reads) else is_bad fields d x) (not_later x f.name before.0) ∙ bad_before fields d x before.1

-- only what stands at the name counts
bad_same : (fields : List Field) (d e : Data) (x : List ℕ) → get x d ≡ get x e → is_bad fields d x ≡ is_bad fields e x
bad_same [] d e x same = ap is_some same
bad_same (f ∷ fields) d e x same =
    ap (λ (o : Option Data). if bytes_eq f.name x then not (is_some o && f.reads) else is_bad fields d x) same
    ∙ ap (λ (b : Bool). if bytes_eq f.name x then not (is_some (get x e) && f.reads) else b) (bad_same fields d e x same)

-- the first field is no other name
bad_other : (f : Field) (fields : List Field) (d : Data) (x : List ℕ) → bytes_eq f.name x ≡ false → is_bad (f ∷ fields) d x ≡ is_bad fields d x
bad_other f fields d x other = ap (λ (b : Bool). if b then not (is_some (get x d) && f.reads) else is_bad fields d x) other

-- the first field, by what stands there
bad_first : (f : Field) (fields : List Field) (d : Data) → is_bad (f ∷ fields) d f.name ≡ not (is_some (get f.name d) && f.reads)
bad_first f fields d = ap (λ (b : Bool). if b then not (is_some (get f.name d) && f.reads) else is_bad fields d f.name) (same_itself f.name)

-- a name before all that are expected and all that stand is not bad
good_before : (fields : List Field) (ms : Members) (x : List ℕ) → IsBefore x (field_names fields) → IsBefore x (names_of ms) → is_bad fields (object ms) x ≡ false
good_before fields ms x before under = bad_before fields (object ms) x before ∙ ap is_some (get_before x ms under)

-- behind a first field that reads, what is left decides
bad_left : (f : Field) (fields : List Field) (d : Data) (ms : Members) (x : List ℕ) → bytes_eq f.name x ≡ false → is_bad (f ∷ fields) (object (member f.name d ms)) x ≡ is_bad fields (object ms) x
bad_left f fields d ms x other = bad_other f fields (object (member f.name d ms)) x other ∙ bad_same fields (object (member f.name d ms)) (object ms) x (get_other x f.name d ms other)

-- a first field that stands and reads is not bad
good_first : (f : Field) (fields : List Field) (d : Data) (ms : Members) → f.reads ≡ true → is_bad (f ∷ fields) (object (member f.name d ms)) f.name ≡ false
good_first f fields d ms reads =
    bad_first f fields (object (member f.name d ms)) ∙ ap (λ (o : Option Data). not (is_some o && f.reads)) (get_first f.name d ms) ∙ ap not reads

-- ---- the fault

-- where a field is bad that stands before all others
fault_at_field : (f : Field) (fields : List Field) (ms : Members) → IsBefore f.name (field_names fields) →
    not (is_some (get_member f.name ms) && f.reads) ≡ true → ((x : List ℕ) → slice_cmp nat_cmp x f.name ≡ Less → IsBefore x (names_of ms)) → IsFault (f ∷ fields) (object ms) f.name
fault_at_field f fields ms before bad under = record {
  bad = bad_first f fields (object ms) ∙ bad;
  least = λ other less. good_before (f ∷ fields) ms other (less, before_all other f.name (field_names fields) less before) (under other less);
}

-- where a name stands before all that are expected
fault_at_name : (fields : List Field) (name : List ℕ) (d : Data) (ms : Members) → IsBefore name (field_names fields) → IsBefore name (names_of ms) → IsFault fields (object (member name d ms)) name
fault_at_name fields name d ms before under = record {
  bad = bad_before fields (object (member name d ms)) name before ∙ ap is_some (get_first name d ms);
  least = λ other less. good_before fields (member name d ms) other (before_all other name (field_names fields) less before) (less, before_all other name (names_of ms) less under);
}

-- behind a first field that reads
fault_later : (f : Field) (fields : List Field) (d : Data) (ms : Members) (name : List ℕ) → IsBefore f.name (field_names fields) → IsBefore f.name (names_of ms) → f.reads ≡ true →
    IsFault fields (object ms) name → IsFault (f ∷ fields) (object (member f.name d ms)) name
fault_later f fields d ms name before under reads fault = record {
  bad = bad_left f fields d ms name (apart (bytes_eq f.name name) refl) ∙ fault.bad;
  least = λ other less. by_name other less (bytes_eq f.name other) refl;
}
  where
    apart : (b : Bool) → bytes_eq f.name name ≡ b → bytes_eq f.name name ≡ false
    apart false is = is
    apart true is = absurd (cc (good_before fields ms f.name before under, ap (is_bad fields (object ms)) ((bytes_eq-Decides f.name name).0 is), fault.bad))

    by_name : (other : List ℕ) → slice_cmp nat_cmp other name ≡ Less → (b : Bool) → bytes_eq f.name other ≡ b → is_bad (f ∷ fields) (object (member f.name d ms)) other ≡ false
    by_name other less false is = bad_left f fields d ms other is ∙ fault.least other less
    by_name other less true is = ap (is_bad (f ∷ fields) (object (member f.name d ms))) (sym ((bytes_eq-Decides f.name other).0 is)) ∙ good_first f fields d ms reads

pub fault_from_first_bad : (fields : List Field) (ms : Members) (name : List ℕ) → IsStrictlySortedBy (slice_cmp nat_cmp) (field_names fields) → IsStrictlySortedBy (slice_cmp nat_cmp) (names_of ms) →
    first_bad fields ms ≡ Some name → IsFault fields (object ms) name
unfolding IsStrictlySortedBy
fault_from_first_bad [] no_members name fields_rise names_rise is = absurd (cc is)
fault_from_first_bad [] (member other d ms) name fields_rise names_rise is =
    let here : other ≡ name = cc is in
    subst (λ (n : List ℕ). IsFault [] (object (member other d ms)) n) here (fault_at_name [] other d ms tt names_rise.0)
fault_from_first_bad (f ∷ fields) no_members name fields_rise names_rise is =
    let here : f.name ≡ name = cc is in
    subst (λ (n : List ℕ). IsFault (f ∷ fields) (object no_members) n) here (fault_at_field f fields no_members fields_rise.0 refl (λ x less. tt))
fault_from_first_bad (f ∷ fields) (member other d ms) name fields_rise names_rise is =
    by_order (slice_cmp nat_cmp f.name other) refl is (λ first. fault_from_first_bad fields ms name fields_rise.1 names_rise.1 first)
  where
    by_order : (o : Ordering) → slice_cmp nat_cmp f.name other ≡ o → match_ordering o (Some f.name) (if f.reads then first_bad fields ms else Some f.name) (Some other) ≡ Some name →
        (first_bad fields ms ≡ Some name → IsFault fields (object ms) name) → IsFault (f ∷ fields) (object (member other d ms)) name
    by_order Less less is later =
        let here : f.name ≡ name = cc is in
        subst (λ (n : List ℕ). IsFault (f ∷ fields) (object (member other d ms)) n) here
        (fault_at_field f fields (member other d ms) fields_rise.0
        (ap (λ (o : Option Data). not (is_some o && f.reads)) (get_before f.name (member other d ms) (less, before_all f.name other (names_of ms) less names_rise.0)))
        (λ x before. before_all x f.name (other ∷ names_of ms) before (less, before_all f.name other (names_of ms) less names_rise.0)))
    by_order Equal equal is later =
        subst (λ (n : List ℕ). IsFault (f ∷ fields) (object (member n d ms)) name) (exact_bytes f.name other equal)
        (by_kind f.reads refl is)
      where
        under : IsBefore f.name (names_of ms)
        under = subst (λ (n : List ℕ). IsBefore n (names_of ms)) (sym (exact_bytes f.name other equal)) names_rise.0

        by_kind : (b : Bool) → f.reads ≡ b → (if b then first_bad fields ms else Some f.name) ≡ Some name → IsFault (f ∷ fields) (object (member f.name d ms)) name
        by_kind true reads first = fault_later f fields d ms name fields_rise.0 under reads (later first)
        by_kind false reads first =
            let here : f.name ≡ name = cc first in
            subst (λ (n : List ℕ). IsFault (f ∷ fields) (object (member f.name d ms)) n) here
            (fault_at_field f fields (member f.name d ms) fields_rise.0
            (ap (λ (o : Option Data). not (is_some o && f.reads)) (get_first f.name d ms) ∙ ap not reads)
            (λ x before. (before, before_all x f.name (names_of ms) before under)))
    by_order Greater greater is later =
        let here : other ≡ name = cc is in
        let less : slice_cmp nat_cmp other f.name ≡ Less = nat_list_cmp_total.antisymm other f.name ∙ ap ordering_reverse greater in
        subst (λ (n : List ℕ). IsFault (f ∷ fields) (object (member other d ms)) n) here
        (fault_at_name (f ∷ fields) other d ms (less, before_all other f.name (field_names fields) less fields_rise.0) names_rise.0)

-- ---- good objects

and_false : (a : Bool) → (a && false) ≡ false
and_false true = refl
and_false false = refl

-- the fields all read and are all the names exactly where nothing parts
decided : (fields : List Field) (ms : Members) → (list_all (λ f. f.reads) fields && pointwise bytes_eq (names_of ms) (field_names fields)) ≡ is_none (first_bad fields ms)
decided [] no_members = refl
decided [] (member name d ms) = refl
decided (f ∷ fields) no_members = and_false (f.reads && list_all (λ f. f.reads) fields)
decided (f ∷ fields) (member name d ms) = by_order (slice_cmp nat_cmp f.name name) refl (bytes_eq name f.name) refl (decided fields ms)
  where
    by_order : (o : Ordering) → slice_cmp nat_cmp f.name name ≡ o → (b : Bool) → bytes_eq name f.name ≡ b →
        (list_all (λ f. f.reads) fields && pointwise bytes_eq (names_of ms) (field_names fields)) ≡ is_none (first_bad fields ms) →
        ((f.reads && list_all (λ f. f.reads) fields) && (b && pointwise bytes_eq (names_of ms) (field_names fields)))
        ≡ is_none (match_ordering o (Some f.name) (if f.reads then first_bad fields ms else Some f.name) (Some name))
    by_order Less is false other rest = and_false (f.reads && list_all (λ f. f.reads) fields)
    by_order Greater is false other rest = and_false (f.reads && list_all (λ f. f.reads) fields)
    by_order Equal is false other rest = absurd (cc (other, ap (bytes_eq name) (exact_bytes f.name name is) ∙ same_itself name))
    by_order Less is true same rest = absurd (cc (is, ap (slice_cmp nat_cmp f.name) ((bytes_eq-Decides name f.name).0 same) ∙ itself f.name))
    by_order Greater is true same rest = absurd (cc (is, ap (slice_cmp nat_cmp f.name) ((bytes_eq-Decides name f.name).0 same) ∙ itself f.name))
    by_order Equal is true same rest = by_kind f.reads
      where
        by_kind : (r : Bool) → ((r && list_all (λ f. f.reads) fields) && pointwise bytes_eq (names_of ms) (field_names fields)) ≡ is_none (if r then first_bad fields ms else Some f.name)
        by_kind true = rest
        by_kind false = refl

both : {X : Type 0} (a b : Bool) (x : X) → (if a then (if b then Some x else None) else None) ≡ (if a && b then Some x else None)
both true b x = refl
both false b x = refl

pub with_fields-first_bad : (fields : List Field) (ms : Members) → with_fields fields (object ms) ≡ (if is_none (first_bad fields ms) then Some (object ms) else None)
with_fields-first_bad fields ms =
    both (list_all (λ f. f.reads) fields) (pointwise bytes_eq (names_of ms) (field_names fields)) (object ms)
    ∙ ap (λ (b : Bool). if b then Some (object ms) else None) (decided fields ms)

-- ---- what bytes spell

object_is : (d : Data) (ms : Members) → as_object d ≡ Some ms → d ≡ object ms
object_is null ms is = absurd (cc is)
object_is (boolean b) ms is = absurd (cc is)
object_is (number n) ms is = absurd (cc is)
object_is (string s) ms is = absurd (cc is)
object_is (array ds) ms is = absurd (cc is)
object_is (object more) ms is = ap object (cc is)

-- nothing parts
pub all_good : (fields : List Field) (d : Data) (ms : Members) → as_object d ≡ Some ms → None ≡ first_bad fields ms → with_fields fields d ≡ Some d
all_good fields d ms is none =
    subst (λ (e : Data). with_fields fields e ≡ Some e) (sym (object_is d ms is))
    (with_fields-first_bad fields ms ∙ ap (λ (o : Option (List ℕ)). if is_none o then Some (object ms) else None) (sym none))

-- a name parts
pub not_good : (fields : List Field) (d : Data) (ms : Members) (name : List ℕ) → as_object d ≡ Some ms → Some name ≡ first_bad fields ms → with_fields fields d ≡ None
not_good fields d ms name is here =
    subst (λ (e : Data). with_fields fields e ≡ None) (sym (object_is d ms is))
    (with_fields-first_bad fields ms ∙ ap (λ (o : Option (List ℕ)). if is_none o then Some (object ms) else None) (sym here))

pub its_fault : (fields : List Field) (d : Data) (ms : Members) (name shown : List ℕ) → as_object d ≡ Some ms → is_rising bytes_below (field_names fields) ≡ true →
    IsStrictlySortedBy (slice_cmp nat_cmp) (names_of ms) → Some name ≡ first_bad fields ms → shown ≡ name → IsFault fields d shown
its_fault fields d ms name shown is fields_rise names_rise here same =
    subst (λ (n : List ℕ). IsFault fields d n) (sym same)
    (subst (λ (e : Data). IsFault fields e name) (sym (object_is d ms is)) (fault_from_first_bad fields ms name (sorted_from_rising (field_names fields) fields_rise) names_rise (sym here)))

pub object_of-value : (bytes : List ℕ) (d : Data) → IsUtf8 bytes → read bytes ≡ Some d → is_some (as_object d) ≡ true → object_of bytes ≡ Some d
unfolding object_of
object_of-value bytes d utf8 reads is =
    ap (option_and_then (λ e. option_map (λ members. e) (as_object e))) (json_of-read bytes d utf8 reads) ∙ stands (as_object d) is
  where
    stands : (o : Option Members) → is_some o ≡ true → option_map (λ members. d) o ≡ Some d
    stands None is = absurd (cc is)
    stands (Some ms) is = refl

pub object_of-other : (bytes : List ℕ) (d : Data) → IsUtf8 bytes → read bytes ≡ Some d → is_some (as_object d) ≡ false → object_of bytes ≡ None
unfolding object_of
object_of-other bytes d utf8 reads is =
    ap (option_and_then (λ e. option_map (λ members. e) (as_object e))) (json_of-read bytes d utf8 reads) ∙ none (as_object d) is
  where
    none : (o : Option Members) → is_some o ≡ false → option_map (λ members. d) o ≡ None
    none None is = refl
    none (Some ms) is = absurd (cc is)

pub object_of-none : (bytes : List ℕ) → (IsUtf8 bytes → read bytes ≡ None) → object_of bytes ≡ None
unfolding object_of
object_of-none bytes refused = ap (option_and_then (λ e. option_map (λ members. e) (as_object e))) (json_of_none bytes refused)
