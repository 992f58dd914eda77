-- The values on a key, read one by one.
use Rattle.std.proofs.Common.{◌≡◌, ℕ, ◌-◌, Bool, true, false, cond, List, [], ◌∷◌, ◌++◌, length, map, Option, Some, None, Result, Ok, Err, refl, sym, ◌∙◌, ap, subst}
use Rattle.std.specs.Prelude.{bytes_eq, filter_map, filter, IsOk}
use Rattle.std.specs.List.{fold, AllByRecursion}
use Rattle.mx_base.specs.declared.entry.Entry.{Entry}
use Rattle.mx_payload.specs.declared.payload.Payload.{Payload}
use Rattle.mx_payload.specs.Decoding.{payload_in}
use Rattle.mx_merge.specs.declared.run.Run.{Run}
use Rattle.mx_merge.specs.declared.run.Run.TheVariants as runs
use Rattle.mx_merge.specs.declared.known.Known.{Known}
use Rattle.mx_merge.specs.declared.known.Known.TheVariants.{Said, Bad}
use Rattle.mx_merge.specs.declared.error.MergeError.{MergeError}
use Rattle.mx_merge.specs.declared.error.MergeError.TheVariants.{NoMemory, BadPayload}
use Rattle.mx_merge.specs.Shown.{shown}
use Rattle.mx_merge.specs.Merged.{values_on_key, payload_of, payloads_on_key, shown_on, IsRead, first_bad, Shows, AreMerged}
use Rattle.mx_merge.specs.Said.{pushed, shown_run, heard, heard_as, Tells}
use Rattle.mx_merge.proofs.RunLemmas.{shown_is, shown_again}

pub values-append : (key : List ℕ) (a b : List Entry) → values_on_key key (a ++ b) ≡ values_on_key key a ++ values_on_key key b
values-append key [] b = refl
values-append key (e ∷ a) b = one (bytes_eq e.key key) (values-append key a b)
  where
    one : (t : Bool) → values_on_key key (a ++ b) ≡ values_on_key key a ++ values_on_key key b
        → map (λ (x : Entry). x.value) (cond t (e ∷ filter (λ (x : Entry). bytes_eq x.key key) (a ++ b)) (filter (λ (x : Entry). bytes_eq x.key key) (a ++ b)))
        ≡ map (λ (x : Entry). x.value) (cond t (e ∷ filter (λ (x : Entry). bytes_eq x.key key) a) (filter (λ (x : Entry). bytes_eq x.key key) a)) ++ values_on_key key b
    one true h = ap (λ (vs : List (List ℕ)). e.value ∷ vs) h
    one false h = h

-- payloads behind one that was read, if it was
abbrev with_front : Option Payload → List Payload → List Payload
with_front None ps = ps
with_front (Some p) ps = p ∷ ps

front-append : (o : Option Payload) (xs ys zs : List Payload) → xs ≡ ys ++ zs → with_front o xs ≡ with_front o ys ++ zs
front-append None xs ys zs h = h
front-append (Some p) xs ys zs h = ap (λ (ps : List Payload). p ∷ ps) h

read-append : (a b : List (List ℕ)) → filter_map payload_of (a ++ b) ≡ filter_map payload_of a ++ filter_map payload_of b
read-append [] b = refl
read-append (v ∷ a) b = front-append (payload_of v) (filter_map payload_of (a ++ b)) (filter_map payload_of a) (filter_map payload_of b) (read-append a b)

pub payloads-append : (key : List ℕ) (a b : List Entry) → payloads_on_key key (a ++ b) ≡ payloads_on_key key a ++ payloads_on_key key b
unfolding payloads_on_key
payloads-append key a b = ap (filter_map payload_of) (values-append key a b) ∙ read-append (values_on_key key a) (values_on_key key b)

pub merged_again : (older newer merged : List Entry) → AreMerged (λ key. true) older merged → (key : List ℕ) → shown_on key (merged ++ newer) ≡ shown_on key (older ++ newer)
unfolding shown_on
merged_again older newer merged are key =
    ap shown (payloads-append key merged newer)
    ∙ ap (λ (ps : List Payload). shown (ps ++ payloads_on_key key newer)) (are.payloads key)
    ∙ shown_again (payloads_on_key key older) (payloads_on_key key newer)
    ∙ ap shown (sym (payloads-append key older newer))

-- ---- what is known after values were read

-- what is known says whether each value was read
abbrev pub IsOf : Run → List (List ℕ) → Known → Type 0
IsOf run values (Said after) = AllByRecursion IsRead values × (first_bad values ≡ None) × (after ≡ fold pushed run (filter_map payload_of values))
IsOf run values (Bad at) = first_bad values ≡ Some at

bad_stays : (at : ℕ) (values : List (List ℕ)) → fold heard (Bad at) values ≡ Bad at
bad_stays at [] = refl
bad_stays at (v ∷ values) = bad_stays at values

one_more : (run : Run) (p : Payload) (v : List ℕ) (values : List (List ℕ)) (known : Known) → payload_in v ≡ Ok p → IsOf (pushed run p) values known → IsOf run (v ∷ values) known
one_more run p v values (Said after) e of =
    ((subst (λ (r : Result Payload ℕ). IsOk r) (sym e) refl, of.0), rw e of.1, of.2 ∙ rw e refl)
one_more run p v values (Bad at) e of = rw e of

pub is_of : (run : Run) (values : List (List ℕ)) → IsOf run values (fold heard (Said run) values)
is_of run [] = (tt, refl, refl)
is_of run (v ∷ values) = by_read (payload_in v) refl (λ p. is_of (pushed run p) values)
  where
    by_read : (r : Result Payload ℕ) → payload_in v ≡ r → ((p : Payload) → IsOf (pushed run p) values (fold heard (Said (pushed run p)) values)) → IsOf run (v ∷ values) (fold heard (heard_as run (length v) (payload_in v)) values)
    by_read (Ok p) e again = subst (λ (k : Known). IsOf run (v ∷ values) (fold heard k values)) (sym (ap (heard_as run (length v)) e)) (one_more run p v values (fold heard (Said (pushed run p)) values) e (again p))
    by_read (Err left) e again =
        let known : fold heard (heard_as run (length v) (payload_in v)) values ≡ Bad (length v - left) = rw e (bad_stays (length v - left) values) in
        subst (IsOf run (v ∷ values)) (sym known) (rw e refl)

told : (key : List ℕ) (entries : List Entry) (known : Known) (result : Result (Option Payload) MergeError) → IsOf runs.Nothing (values_on_key key entries) known → Tells known result → Shows key entries result
unfolding shown_on payloads_on_key
told key entries known (Err NoMemory) of tells = tt
told key entries (Said after) (Ok found) of tells = (of.0, tells ∙ ap shown_run of.2 ∙ sym (shown_is (filter_map payload_of (values_on_key key entries))))
told key entries (Said after) (Err (BadPayload at)) of tells = absurd tells
told key entries (Bad at) (Ok found) of tells = absurd tells
told key entries (Bad at) (Err (BadPayload place)) of tells = of ∙ ap Some (sym tells)

-- what the values on a key tell is what it shows
pub shows_told : (key : List ℕ) (entries : List Entry) (known : Known) (result : Result (Option Payload) MergeError) → known ≡ fold heard (Said runs.Nothing) (values_on_key key entries) → Tells known result → Shows key entries result
shows_told key entries known result is tells = told key entries known result (subst (IsOf runs.Nothing (values_on_key key entries)) (sym is) (is_of runs.Nothing (values_on_key key entries))) tells
