-- What is known of each key while entries are read.
use Rattle.std.proofs.Common.{◌≡◌, ℕ, suc, ◌<◌, ◌+◌, drop, get_or, add-one, drop-cons, Bool, true, false, cond, List, [], ◌∷◌, length, Option, Some, refl, sym, ◌∙◌, ap}
use Rattle.std.specs.Prelude.{bytes_eq, nat_eq, unwrap_or}
use Rattle.std.proofs.lemmas.Slice.Eq.{bytes_eq-Decides}
use Rattle.std.specs.List.{fold, starts_with}
use Rattle.std.specs.BTreeMap as tree
use Rattle.std.specs.Ordering.{is_eq}
use Rattle.std.specs.Cmp.Lexicographic.{texts_ties}
use Rattle.mx_base.specs.declared.entry.Entry.{Entry}
use Rattle.mx_merge.specs.declared.run.Run.TheVariants as runs
use Rattle.mx_merge.specs.declared.known.Known.{Known}
use Rattle.mx_merge.specs.declared.known.Known.TheVariants.{Said}
use Rattle.mx_merge.specs.Said.{heard, known_at, asked, KnownMap}
use Rattle.mx_lists.proofs.TreeLemmas.{R, same_key}

module _ (m n : KnownMap) (k value : List ℕ) (found : Option Known) (after : Known) (at : found ≡ tree.get R m k) (is : after ≡ heard (unwrap_or found (Said runs.Nothing)) value) (updates : tree.Updates R m n k (Some after)) where
  pub met : (key : List ℕ) → known_at n key ≡ cond (bytes_eq k key) (heard (known_at m key) value) (known_at m key)
  met key = ap (λ (o : Option Known). unwrap_or o (Said runs.Nothing)) (updates.0 key) ∙ by_test (is_eq (R k key)) refl ∙ ap (λ (b : Bool). cond b (heard (known_at m key) value) (known_at m key)) (sym (texts_ties k key))
    where
      by_test : (b : Bool) → is_eq (R k key) ≡ b → unwrap_or (cond (is_eq (R k key)) (Some after) (tree.get R m key)) (Said runs.Nothing) ≡ cond (is_eq (R k key)) (heard (known_at m key) value) (known_at m key)
      by_test false tie = rw tie refl
      by_test true tie =
          let here : unwrap_or found (Said runs.Nothing) ≡ known_at m key = ap (λ (o : Option Known). unwrap_or o (Said runs.Nothing)) at ∙ ap (known_at m) (same_key k key tie) in
          rw tie (is ∙ ap (λ (x : Known). heard x value) here)

-- ---- one entry after the other

pub next : {A : Type 0} (xs : List A) (i : ℕ) (x : A) → i < length xs → x ≡ get_or xs i x → drop i xs ≡ x ∷ drop (i + 1) xs
next xs i x lt is = rw (add-one) (drop-cons xs i x lt ∙ ap (λ y. y ∷ drop (suc i) xs) (sym is))

pub asked-on : (prefix key : List ℕ) (e : Entry) (rest : List Entry) (old : Known) → starts_with nat_eq e.key prefix ≡ true
    → fold heard (cond (bytes_eq e.key key) (heard old e.value) old) (asked prefix key rest) ≡ fold heard old (asked prefix key (e ∷ rest))
asked-on prefix key e rest old has = by_tests (bytes_eq e.key key) refl (starts_with nat_eq key prefix) refl
  where
    by_tests : (b : Bool) → bytes_eq e.key key ≡ b → (t : Bool) → starts_with nat_eq key prefix ≡ t
        → fold heard (cond (bytes_eq e.key key) (heard old e.value) old) (asked prefix key rest) ≡ fold heard old (asked prefix key (e ∷ rest))
    by_tests false on false asks = rw (on, asks) refl
    by_tests false on true asks = rw (on, asks) refl
    by_tests true on true asks = rw (on, asks) refl
    by_tests true on false asks = absurd (differ (sym has ∙ ap (λ (x : List ℕ). starts_with nat_eq x prefix) ((bytes_eq-Decides e.key key).0 on) ∙ asks))
      where
        differ : true ≡ false → ⊥
        differ e = absurd cc

pub asked-off : (prefix key : List ℕ) (e : Entry) (rest : List Entry) → starts_with nat_eq e.key prefix ≡ false → asked prefix key rest ≡ asked prefix key (e ∷ rest)
asked-off prefix key e rest has = by_tests (bytes_eq e.key key) refl (starts_with nat_eq key prefix) refl
  where
    by_tests : (b : Bool) → bytes_eq e.key key ≡ b → (t : Bool) → starts_with nat_eq key prefix ≡ t → asked prefix key rest ≡ asked prefix key (e ∷ rest)
    by_tests b on false asks = rw asks refl
    by_tests false on true asks = rw (asks, on) refl
    by_tests true on true asks = absurd (differ (sym asks ∙ ap (λ (x : List ℕ). starts_with nat_eq x prefix) (sym ((bytes_eq-Decides e.key key).0 on)) ∙ has))
      where
        differ : true ≡ false → ⊥
        differ e = absurd cc

module _ (prefix key : List ℕ) (e : Entry) (left rest : List Entry) (k0 k1 total : Known) (parts : left ≡ e ∷ rest) (so_far : fold heard k0 (asked prefix key left) ≡ total) where
  pub goes_on : starts_with nat_eq e.key prefix ≡ true → k1 ≡ cond (bytes_eq e.key key) (heard k0 e.value) k0 → fold heard k1 (asked prefix key rest) ≡ total
  goes_on has is =
      ap (λ (k : Known). fold heard k (asked prefix key rest)) is ∙ asked-on prefix key e rest k0 has ∙ ap (λ (es : List Entry). fold heard k0 (asked prefix key es)) (sym parts) ∙ so_far

  pub goes_by : starts_with nat_eq e.key prefix ≡ false → fold heard k0 (asked prefix key rest) ≡ total
  goes_by has = ap (fold heard k0) (asked-off prefix key e rest has) ∙ ap (λ (es : List Entry). fold heard k0 (asked prefix key es)) (sym parts) ∙ so_far

-- no entries are left
pub all_read : (prefix key : List ℕ) (known : Known) → known ≡ fold heard known (asked prefix key [])
all_read prefix key known = by_test (starts_with nat_eq key prefix)
  where
    by_test : (b : Bool) → known ≡ fold heard known (cond b [] [])
    by_test true = refl
    by_test false = refl
