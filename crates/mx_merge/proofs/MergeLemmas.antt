-- What is known of each key tells what entries show on all of them.
use Rattle.std.proofs.Common.{◌≡◌, ℕ, Bool, true, false, cond, List, [], ◌∷◌, ◌++◌, map, Option, Some, None, Result, Ok, Err, refl, sym, ◌∙◌, ap, subst}
use Rattle.std.specs.Prelude.{bytes_eq, nat_eq, unwrap_or, filter_map, IfSome}
use Rattle.std.specs.Option.{option_to_list, option_map}
use Rattle.std.specs.List.{AllByRecursion, fold, starts_with}
use Rattle.std.specs.List.Sorted.{IsStrictlySortedBy}
use Rattle.std.specs.Map.{lookup, keys_of}
use Rattle.std.specs.BTreeMap as tree
use Rattle.std.specs.Ordering.{is_eq, is_lt}
use Rattle.std.specs.declared.cmp.Ordering.{Ordering}
use Rattle.std.specs.declared.cmp.Ordering.TheVariants.{Less, Equal, Greater}
use Rattle.std.specs.Cmp.{tied_itself, Equal-is}
use Rattle.std.specs.Cmp.Lexicographic.{nat_list_cmp_total}
use Rattle.mx_base.specs.declared.entry.Entry.{Entry}
use Rattle.mx_payload.specs.declared.payload.Payload.{Payload}
use Rattle.mx_payload.specs.Rules.{IsWellFormed}
use Rattle.mx_payload.specs.Encoding.{encoding}
use Rattle.mx_payload.specs.Decoding.{payload_in}
use Rattle.mx_payload.proofs.Payloads.{payload_again}
use Rattle.mx_merge.specs.declared.run.Run.TheVariants as runs
use Rattle.mx_merge.specs.declared.known.Known.{Known}
use Rattle.mx_merge.specs.declared.known.Known.TheVariants.{Said, Bad}
use Rattle.mx_merge.specs.declared.error.MergeError.{MergeError}
use Rattle.mx_merge.specs.declared.error.MergeError.TheVariants.{NoMemory, BadPayload}
use Rattle.mx_merge.specs.Shown.{shown}
use Rattle.mx_merge.specs.Merged.{values_on_key, payload_of, payloads_on_key, shown_on, AreRead, first_bad, IsFirstBad, AreMerged, Merges}
use Rattle.mx_merge.specs.Said.{shown_run, heard, KnownMap, known_at, asked, entry_with, entry_on, shown_known, IsShown, AreEntries, StopsAt, TellsAll}
use Rattle.mx_lists.proofs.TreeLemmas.{R, turned, tied}
use Rattle.mx_merge.proofs.RunLemmas.{shown_is}
use Rattle.mx_merge.proofs.ValueLemmas.{IsOf, is_of}

abbrev Met : Type 0
Met = List (List ℕ × Known)

abbrev found_in : List ℕ → Met → Option Known
found_in key es = lookup (tree.is_at (R key)) es

abbrev known_in : Option Known → Known
known_in found = unwrap_or found (Said runs.Nothing)

-- ---- keys that rise

above_none : (key : List ℕ) (es : Met) → AllByRecursion (λ y. R key y ≡ Less) (keys_of es) → found_in key es ≡ None
above_none key [] all = refl
above_none key (e ∷ es) all = let step : R key e.0 ≡ Less = all.0 in rw step (above_none key es all.1)

all_above : (key x : List ℕ) (es : Met) → ((y : List ℕ) → R x y ≡ Less → R key y ≡ Less) → AllByRecursion (λ y. R x y ≡ Less) (keys_of es) → AllByRecursion (λ y. R key y ≡ Less) (keys_of es)
all_above key x [] up all = tt
all_above key x (e ∷ es) up all = (up e.0 all.0, all_above key x es up all.1)

tied_none : (key x : List ℕ) (es : Met) → is_eq (R key x) ≡ true → AllByRecursion (λ y. R x y ≡ Less) (keys_of es) → found_in key es ≡ None
tied_none key x es tie all = above_none key es (all_above key x es (λ y step. nat_list_cmp_total.congr key x y ((Equal-is _).0 tie) ∙ step) all)

abbrev with_front : Option Entry → List Entry → List Entry
with_front None es = es
with_front (Some e) es = e ∷ es

keys_above : (x : List ℕ) (es : Met) → AllByRecursion (λ y. R x y ≡ Less) (keys_of es) → AllByRecursion (λ y. R x y ≡ Less) (map (λ (e : Entry). e.key) (filter_map entry_on es))
keys_above x [] all = tt
keys_above x (e ∷ es) all = one (shown_known e.1) (keys_above x es all.1)
  where
    one : (s : Option Payload) → AllByRecursion (λ y. R x y ≡ Less) (map (λ (a : Entry). a.key) (filter_map entry_on es)) → AllByRecursion (λ y. R x y ≡ Less) (map (λ (a : Entry). a.key) (with_front (option_map (entry_with e.0) s) (filter_map entry_on es)))
    one None h = h
    one (Some p) h = (all.0, h)

entries_rise : (es : Met) → IsStrictlySortedBy R (keys_of es) → IsStrictlySortedBy R (map (λ (e : Entry). e.key) (filter_map entry_on es))
unfolding IsStrictlySortedBy
entries_rise [] sorted = tt
entries_rise (e ∷ es) sorted = one e (filter_map entry_on es) (shown_known e.1) (keys_above e.0 es sorted.0) (entries_rise es sorted.1)
  where
    one : (e : List ℕ × Known) (rest : List Entry) (s : Option Payload) → AllByRecursion (λ y. R e.0 y ≡ Less) (map (λ (a : Entry). a.key) rest) → IsStrictlySortedBy R (map (λ (a : Entry). a.key) rest)
        → IsStrictlySortedBy R (map (λ (a : Entry). a.key) (with_front (option_map (entry_with e.0) s) rest))
    one e rest None above h = h
    one e rest (Some p) above h = (above, h)

-- ---- the values on a key of the entries that were made

abbrev values_for : Option Known → List (List ℕ)
values_for found = option_to_list (option_map encoding (shown_known (known_in found)))

values_step : (key : List ℕ) (e : List ℕ × Known) (rest : List Entry) (found : Option Known) (b : Bool) (s : Option Payload) → bytes_eq e.0 key ≡ b → is_eq (R key e.0) ≡ b → shown_known e.1 ≡ s → (b ≡ true → found ≡ None)
    → values_on_key key rest ≡ values_for found → values_on_key key (with_front (option_map (entry_with e.0) (shown_known e.1)) rest) ≡ values_for (cond (is_eq (R key e.0)) (Some e.1) found)
values_step key e rest found true None on tie is none h = let n = none refl in rw (tie, is) (h ∙ rw n refl)
values_step key e rest found true (Some p) on tie is none h = let n = none refl in rw (tie, is, on) (ap (λ (vs : List (List ℕ)). encoding p ∷ vs) (h ∙ rw n refl))
values_step key e rest found false None on tie is none h = rw (tie, is) h
values_step key e rest found false (Some p) on tie is none h = rw (tie, is, on) h

values_are : (key : List ℕ) (es : Met) → IsStrictlySortedBy R (keys_of es) → values_on_key key (filter_map entry_on es) ≡ values_for (found_in key es)
unfolding IsStrictlySortedBy
values_are key [] sorted = refl
values_are key (e ∷ es) sorted =
    values_step key e (filter_map entry_on es) (found_in key es) (is_eq (R key e.0)) (shown_known e.1) (sym (tied e.0 key)) refl refl (λ tie. tied_none key e.0 es tie sorted.0) (values_are key es sorted.1)

-- ---- no bad value

shown_in : (key : List ℕ) (es : Met) → AllByRecursion (λ e. IsShown e.1) es → IsShown (known_in (found_in key es))
shown_in key [] all = tt
shown_in key (e ∷ es) all = one (is_eq (R key e.0)) (shown_in key es all.1)
  where
    one : (b : Bool) → IsShown (known_in (found_in key es)) → IsShown (known_in (cond b (Some e.1) (found_in key es)))
    one true h = all.0
    one false h = h

-- values of which none is bad
record AreGood (values : List (List ℕ)) (known : Known) : Type 0 where
  read : AllByRecursion Rattle.mx_merge.specs.Merged.IsRead values
  shows : shown_known known ≡ shown (filter_map payload_of values)

good : (values : List (List ℕ)) (known : Known) → IsOf runs.Nothing values known → IsShown known → AreGood values known
good values (Said run) of is_shown = record { read = of.0; shows = ap shown_run of.2 ∙ sym (shown_is (filter_map payload_of values)) }
good values (Bad at) of is_shown = absurd is_shown

well_formed : (known : Known) → IsShown known → IfSome (shown_known known) IsWellFormed
well_formed (Said run) is_shown = is_shown
well_formed (Bad at) is_shown = absurd is_shown

read_again : (s : Option Payload) → IfSome s IsWellFormed → filter_map payload_of (option_to_list (option_map encoding s)) ≡ option_to_list s
read_again None h = refl
read_again (Some p) h = let e : payload_in (encoding p) ≡ Ok p = payload_again p h in rw e refl

module _ (prefix : List ℕ) (entries : List Entry) (m : KnownMap) (known : (key : List ℕ) → known_at m key ≡ fold heard (Said runs.Nothing) (asked prefix key entries)) where
  abbrev wanted : List ℕ → Bool
  wanted key = starts_with nat_eq key prefix

  of_asked : (key : List ℕ) → IsOf runs.Nothing (asked prefix key entries) (known_at m key)
  of_asked key = subst (IsOf runs.Nothing (asked prefix key entries)) (sym (known key)) (is_of runs.Nothing (asked prefix key entries))

  are_read : (key : List ℕ) → IsShown (known_at m key) → wanted key ≡ true → AreRead key entries
  are_read key is_shown asks =
      let g = good (asked prefix key entries) (known_at m key) (of_asked key) is_shown in
      rw asks at g.read

  -- what is known of a key shows what the entries show, where it was asked for
  shows_asked : (key : List ℕ) → IsShown (known_at m key) → shown_known (known_at m key) ≡ cond (wanted key) (shown_on key entries) None
  unfolding shown_on payloads_on_key shown
  shows_asked key is_shown =
      let g = good (asked prefix key entries) (known_at m key) (of_asked key) is_shown in
      g.shows ∙ by_test (wanted key) refl
    where
      by_test : (b : Bool) → wanted key ≡ b → shown (filter_map payload_of (asked prefix key entries)) ≡ cond (wanted key) (shown_on key entries) None
      by_test true asks = rw asks refl
      by_test false asks = rw asks refl

  listed_if : (b : Bool) (o : Option Payload) → option_to_list (option_map encoding (cond b o None)) ≡ cond b (option_to_list (option_map encoding o)) []
  listed_if true o = refl
  listed_if false o = refl

  payloads_if : (b : Bool) (o : Option Payload) → option_to_list (cond b o None) ≡ cond b (option_to_list o) []
  payloads_if true o = refl
  payloads_if false o = refl

  are_merged : (merged : List Entry) → tree.IsOrdered R m → AreEntries m.entries merged → AreMerged wanted entries merged
  unfolding payloads_on_key
  are_merged merged ordered are = record {
    rising = subst (λ (es : List Entry). IsStrictlySortedBy R (map (λ (e : Entry). e.key) es)) (sym are.are) (entries_rise m.entries ordered);
    values = λ key.
        ap (values_on_key key) are.are ∙ values_are key m.entries ordered
        ∙ ap (λ (o : Option Payload). option_to_list (option_map encoding o)) (shows_asked key (shown_in key m.entries are.shown))
        ∙ listed_if (wanted key) (shown_on key entries);
    payloads = λ key.
        let is_shown : IsShown (known_at m key) = shown_in key m.entries are.shown in
        ap (filter_map payload_of) (ap (values_on_key key) are.are ∙ values_are key m.entries ordered)
        ∙ read_again (shown_known (known_at m key)) (well_formed (known_at m key) is_shown)
        ∙ ap option_to_list (shows_asked key is_shown)
        ∙ payloads_if (wanted key) (shown_on key entries);
  }

  -- ---- the first bad value

  below_of : (x key : List ℕ) (before behind : Met) (v : Known) → AllByRecursion (λ y. R x y ≡ Less) (keys_of (before ++ (key, v) ∷ behind)) → R x key ≡ Less
  below_of x key [] behind v all = all.0
  below_of x key (e ∷ before) behind v all = below_of x key before behind v all.1

  found_at : (key : List ℕ) (v : Known) (before behind : Met) → IsStrictlySortedBy R (keys_of (before ++ (key, v) ∷ behind)) → found_in key (before ++ (key, v) ∷ behind) ≡ Some v
  unfolding IsStrictlySortedBy
  found_at key v [] behind sorted = let itself : R key key ≡ Equal = tied_itself nat_list_cmp_total key in rw itself refl
  found_at key v (e ∷ before) behind sorted =
      let less : R e.0 key ≡ Less = below_of e.0 key before behind v sorted.0 in
      let off : is_eq (R key e.0) ≡ false = turned key e.0 ∙ ap is_eq less in
      rw off (found_at key v before behind sorted.1)

  less_is : (o : Ordering) → is_lt o ≡ true → o ≡ Less
  less_is Less e = refl
  less_is Equal e = absurd cc
  less_is Greater e = absurd cc

  shown_below : (other key : List ℕ) (v : Known) (before behind : Met) → IsStrictlySortedBy R (keys_of (before ++ (key, v) ∷ behind)) → AllByRecursion (λ e. IsShown e.1) before → R other key ≡ Less → IsShown (known_in (found_in other (before ++ (key, v) ∷ behind)))
  unfolding IsStrictlySortedBy
  shown_below other key v [] behind sorted all less =
      let none = above_none other behind (all_above other key behind (λ y step. nat_list_cmp_total.trans other key y less step) sorted.0) in
      rw (less, none) tt
  shown_below other key v (e ∷ before) behind sorted all less = one (is_eq (R other e.0)) (shown_below other key v before behind sorted.1 all.1 less)
    where
      one : (b : Bool) → IsShown (known_in (found_in other (before ++ (key, v) ∷ behind))) → IsShown (known_in (cond b (Some e.1) (found_in other (before ++ (key, v) ∷ behind))))
      one true h = all.0
      one false h = h

  first_in : (key : List ℕ) (at : ℕ) → known_at m key ≡ Bad at → (wanted key ≡ true) × (first_bad (values_on_key key entries) ≡ Some at)
  first_in key at bad = by_test (wanted key) refl (subst (IsOf runs.Nothing (asked prefix key entries)) bad (of_asked key))
    where
      none_some : None ≡ Some at → ⊥
      none_some e = absurd cc

      by_test : (b : Bool) → wanted key ≡ b → first_bad (asked prefix key entries) ≡ Some at → (wanted key ≡ true) × (first_bad (values_on_key key entries) ≡ Some at)
      by_test true asks h = (asks, rw asks at h)
      by_test false asks h = absurd (none_some (rw asks at h))

  first_is : (at : ℕ) → tree.IsOrdered R m → StopsAt m.entries at → IsFirstBad wanted entries at
  first_is at ordered stop =
      let sorted = subst (λ (es : Met). IsStrictlySortedBy R (keys_of es)) stop.parts ordered in
      let bad : known_at m stop.key ≡ Bad at = ap (λ (es : Met). known_in (found_in stop.key es)) stop.parts ∙ ap known_in (found_at stop.key (Bad at) stop.before stop.behind sorted) in
      let first = first_in stop.key at bad in
      record {
        key = stop.key;
        is_wanted = first.0;
        bad = first.1;
        least = λ other asks less.
            let h = shown_below other stop.key (Bad at) stop.before stop.behind sorted stop.shown (less_is _ less) in
            are_read other (subst (λ (es : Met). IsShown (known_in (found_in other es))) (sym stop.parts) h) asks;
      }

  pub merges_told : (result : Result (List Entry) MergeError) → tree.IsOrdered R m → TellsAll m.entries result → Merges wanted entries result
  merges_told (Ok merged) ordered tells = ((λ key asks. are_read key (shown_in key m.entries tells.shown) asks), are_merged merged ordered tells)
  merges_told (Err NoMemory) ordered tells = tt
  merges_told (Err (BadPayload at)) ordered tells = first_is at ordered tells
