-- What bytes are of which kind.
use Rattle.std.proofs.Common.{◌≡◌, ℕ, ◌<◌, ◌≤◌, arith, Bool, true, false, List, [], ◌∷◌, take, get_or, length, All, Option, Some, Result, Ok, Err, IfOk, refl, sym, ◌∙◌, ap, subst}
use Rattle.std.proofs.lemmas.List.{take_all}
use Rattle.std.proofs.lemmas.List.Elements.{All-contains}
use Rattle.std.specs.Prelude.{IsUtf8, is_some, unwrap_or, Contains, String, IsTrue, ◌↔◌}
use Rattle.serde_json.specs.Data.{Data, null, boolean, number, string, array, object, no_members, Members}
use Rattle.serde_json.specs.View.{members_view}
use Rattle.serde_json.specs.declared.value.Value.{Value}
use Rattle.std.specs.declared.alloc.Global.{Global}
use Rattle.serde_json.specs.Find.{as_object}
use Rattle.serde_json.specs.Read.{read}
use Rattle.mx_meta.proofs.FieldLemmas.{object_of-value, object_of-other}
use Rattle.mx_base.specs.declared.object_name.ActionState.TheVariants.{Inflight}
use Rattle.mx_meta.specs.PathLists.{path_list_of}
use Rattle.mx_meta.specs.ShardFiles.{delta_meta_of}
use Rattle.mx_meta.specs.declared.path_list.PathList.{PathList}
use Rattle.std.specs.declared.alloc.AllocError.{AllocError}
use Rattle.mx_folder.specs.Reading.{IsEmptyObject, IsLogOf, IsDataFileOf, ReadsAsDelta, ReadsAsCommit}
use Rattle.mx_open.specs.Deciding.{Decides}

-- an element that is not so
pub one_not : {X : Type 0} (P : X → Type 0) (xs : List X) (i : ℕ) (x : X) → i < length xs → x ≡ get_or xs i x → ¬ (P x) → ¬ (All P xs)
one_not P xs i x within is not all = not (subst P (sym is) (all i x within))

pub one_of : {X : Type 0} (xs : List X) (i : ℕ) (x : X) → i < length xs → x ≡ get_or xs i x → Contains xs x
one_of xs i x within is = (i, within, sym is)

pub none_of : {X : Type 0} (P : X → Type 0) (xs : List X) (x : X) → All (λ y. ¬ (P y)) xs → Contains xs x → ¬ (P x)
none_of P xs x none among = All-contains (λ y. ¬ (P y)) xs x none among

pub all_taken : {X : Type 0} (P : X → Type 0) (xs : List X) (i : ℕ) → length xs ≤ i → All P (take i xs) → All P xs
all_taken P xs i whole all = subst (All P) (take_all i xs whole) all

-- what a test said
pub said_not : (b : Bool) (P : Type 0) → b ≡ false → Decides b P → ¬ P
said_not true P is said = absurd (cc is)
said_not false P is said = said

pub said_so : (b : Bool) (P : Type 0) → b ≡ true → Decides b P → P
said_so true P is said = said
said_so false P is said = absurd (cc is)

-- a test of the library
pub tells : (b : Bool) (P : Type 0) → (IsTrue b ↔ P) → Decides b P
tells true P both = both.0 refl
tells false P both = λ p. absurd (cc (both.1 p))

pub same_value : {X : Type 0} (x y : X) → ◌≡◌ {A = Option X} (Some x) (Some y) → x ≡ y
same_value x y is = ap (λ o. unwrap_or o x) is

pub empty_if : (bytes : List ℕ) (d : Data) (b : Bool) → IsUtf8 bytes → read bytes ≡ Some d → Decides b (d ≡ object no_members) → Decides b (IsEmptyObject bytes)
empty_if bytes d true utf8 reads is = object_of-value bytes (object no_members) utf8 (reads ∙ ap (λ (e : Data). Some e) is) refl
empty_if bytes d false utf8 reads not = from (is_some (as_object d)) refl
  where
    from : (o : Bool) → is_some (as_object d) ≡ o → ¬ (IsEmptyObject bytes)
    from true has empty = not (same_value d (object no_members) (sym (object_of-value bytes d utf8 reads has) ∙ empty))
    from false lacks empty = absurd (cc (sym (object_of-other bytes d utf8 reads lacks) ∙ empty))

as_members : (d : Data) (ms : Members) → Some ms ≡ as_object d → d ≡ object ms
as_members null ms is = absurd (cc is)
as_members (boolean b) ms is = absurd (cc is)
as_members (number n) ms is = absurd (cc is)
as_members (string s) ms is = absurd (cc is)
as_members (array ds) ms is = absurd (cc is)
as_members (object other) ms is = ap object (sym (same_value ms other is))

no_entries : (es : List (String Global × Value)) → length es ≡ 0 → members_view es ≡ no_members
no_entries [] none = refl
no_entries (e ∷ es) none = absurd (omega (arith, none))

entries_none : (es : List (String Global × Value)) → members_view es ≡ no_members → length es ≡ 0
entries_none [] none = refl
entries_none (e ∷ es) none = absurd (cc none)

pub no_members_if : (d : Data) (es : List (String Global × Value)) (b : Bool) → Some (members_view es) ≡ as_object d → (IsTrue b ↔ (length es ≡ 0)) → Decides b (d ≡ object no_members)
no_members_if d es true is both = as_members d (members_view es) is ∙ ap object (no_entries es (both.0 refl))
no_members_if d es false is both = λ empty. absurd (cc (both.1 (entries_none es (same_value (members_view es) no_members (is ∙ ap as_object empty)))))

-- a test of something that is so exactly where the other is
pub decides_as : (b : Bool) (P Q : Type 0) → (P → Q) → (Q → P) → Decides b P → Decides b Q
decides_as true P Q there back said = there said
decides_as false P Q there back said = λ q. said (back q)

pub delta_read : (b completed : Bool) (at : ℕ) (bytes : List ℕ) (logs : List (List ℕ)) → completed ≡ true → delta_meta_of bytes ≡ Some logs → Decides b (All (IsLogOf at) logs) → Decides b (ReadsAsDelta at completed bytes)
delta_read b true at bytes logs is reads said =
    decides_as b (All (IsLogOf at) logs) (ReadsAsDelta at true bytes) (λ all. (logs, reads, all))
    (λ (r : ReadsAsDelta at true bytes). subst (λ (ls : List (List ℕ)). All (IsLogOf at) ls) (same_value r.0 logs (sym r.1 ∙ reads)) r.2) said
delta_read b false at bytes logs is reads said = absurd (cc is)

pub files_read : (r : Result Bool AllocError) (at : ℕ) (bytes : List ℕ) (list : PathList) (paths : List (List ℕ)) → path_list_of bytes ≡ Some list → paths ≡ list.paths →
    IfOk r (λ all. Decides all (All (IsDataFileOf at) paths)) → IfOk r (λ reads. Decides reads (ReadsAsCommit at Inflight bytes))
files_read (Err e) at bytes list paths reads same said = tt
files_read (Ok b) at bytes list paths reads same said =
    decides_as b (All (IsDataFileOf at) paths) (ReadsAsCommit at Inflight bytes)
    (λ all. (list, reads, subst (λ (ps : List (List ℕ)). All (IsDataFileOf at) ps) same all))
    (λ (r : ReadsAsCommit at Inflight bytes).
    subst (λ (ps : List (List ℕ)). All (IsDataFileOf at) ps) (ap (λ (l : PathList). l.paths) (same_value r.0 list (sym r.1 ∙ reads)) ∙ sym same) r.2) said
