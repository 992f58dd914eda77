-- Arrays of JSON, whose items are of one kind.
use Rattle.std.proofs.Common.{◌≡◌, ℕ, zero, suc, ◌<◌, List, [], ◌∷◌, ◌++◌, length, get_or, map, All, refl, sym, ap, ◌∙◌, arith}
use Rattle.std.proofs.lemmas.List.{map_push}
use Rattle.std.proofs.lemmas.List.Elements.{All-head, All-tail}
use Rattle.serde_json.specs.Data.{Data}
use Rattle.serde_json.specs.View.{view, items_of, items_view}
use Rattle.serde_json.specs.declared.value.Value.{Value}

module _ {T : Type 0} (shown : T → Data) where
  pub items-injective : ((a b : T) → shown a ≡ shown b → a ≡ b) → (xs ys : List T) → items_of (map shown xs) ≡ items_of (map shown ys) → xs ≡ ys
  items-injective one [] [] e = refl
  items-injective one [] (y ∷ ys) e = cc
  items-injective one (x ∷ xs) [] e = cc
  items-injective one (x ∷ xs) (y ∷ ys) e =
      let head : shown x ≡ shown y = cc in
      let tail : items_of (map shown xs) ≡ items_of (map shown ys) = cc in
      let first : x ≡ y = one x y head in
      let others : xs ≡ ys = items-injective one xs ys tail in
      cc

  -- one item more
  pub items_more : (values : List Value) (xs new : List T) (x : T) (v : Value) → map view values ≡ map shown xs → view v ≡ shown x → new ≡ xs ++ x ∷ [] → map view (values ++ v ∷ []) ≡ map shown new
  items_more values xs new x v so_far reads pushed =
      map_push view values v
      ∙ ap (λ (d : Data). map view values ++ d ∷ []) reads
      ∙ ap (λ (ds : List Data). ds ++ shown x ∷ []) so_far
      ∙ sym (map_push shown xs x)
      ∙ ap (map shown) (sym pushed)

  -- each item of an array of them is one
  pub item_at : (P : T → Type 0) (values : List Value) (xs : List T) (i : ℕ) (d : Value) → items_view values ≡ items_of (map shown xs) → All P xs → i < length values → (x : T) × P x × (view (get_or values i d) ≡ shown x)
  item_at P [] xs i d e all within = absurd (omega (arith, within))
  item_at P (v ∷ vs) [] i d e all within = absurd (cc e)
  item_at P (v ∷ vs) (x ∷ xs) zero d e all within = (x, All-head P x xs all, cc)
  item_at P (v ∷ vs) (x ∷ xs) (suc i) d e all within =
      let tail : items_view vs ≡ items_of (map shown xs) = cc in
      item_at P vs xs i d tail (All-tail P x xs all) (omega (arith, within))
