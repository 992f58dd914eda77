-- What the cells of rows give, row by row.
use Rattle.std.proofs.Common.{◌≡◌, ℕ, zero, suc, ◌+◌, ◌-◌, ◌<◌, ◌≤◌, List, [], ◌∷◌, ◌++◌, length, get_or, take, map, flat_map, append-nil, length-append, ap, ◌∙◌, arith, Some}
use Rattle.std.proofs.lemmas.List.{map_more}
use Rattle.std.proofs.lemmas.List.Concat.{flat_map-append, flat_map-cons}
use Rattle.std.specs.List.{slice_get}
use Rattle.mx_schema.specs.declared.column.Column.{Column}
use Rattle.mx_parquet.specs.Columns.{hudi_names, columns_of}

-- one more element
pub flat_map_next : {A B C : Type 0} (f : B → List C) (g : A → B) (xs : List A) (i : ℕ) (d : A) → i < length xs
    → flat_map f (map g (take (i + 1) xs)) ≡ flat_map f (map g (take i xs)) ++ f (g (get_or xs i d))
flat_map_next f g xs i d lt =
    ap (flat_map f) (map_more g xs i d lt) ∙ flat_map-append f (map g (take i xs)) (g (get_or xs i d) ∷ [])
    ∙ ap (λ (r : List _). flat_map f (map g (take i xs)) ++ r) (flat_map-cons f (g (get_or xs i d)) [] ∙ append-nil (f (g (get_or xs i d))))

pub flat_map_next-length : {A B C : Type 0} (f : B → List C) (g : A → B) (xs : List A) (i : ℕ) (d : A) → i < length xs
    → length (flat_map f (map g (take (i + 1) xs))) ≡ length (flat_map f (map g (take i xs))) + length (f (g (get_or xs i d)))
flat_map_next-length f g xs i d lt =
    ap length (flat_map_next f g xs i d lt) ∙ length-append (flat_map f (map g (take i xs))) (f (g (get_or xs i d)))

-- a part is no longer than the whole
pub flat_map_within : {A B C : Type 0} (f : B → List C) (g : A → B) (xs : List A) (i : ℕ) (d : A) → i < length xs
    → length (f (g (get_or xs i d))) ≤ length (flat_map f (map g xs))
flat_map_within f g [] i d lt = absurd (omega arith)
flat_map_within f g (x ∷ xs) zero d lt = omega (arith, ap length (flat_map-cons f (g x) (map g xs)), length-append (f (g x)) (flat_map f (map g xs)))
flat_map_within f g (x ∷ xs) (suc i) d lt =
    omega (arith, flat_map_within f g xs i d (omega arith), ap length (flat_map-cons f (g x) (map g xs)), length-append (f (g x)) (flat_map f (map g xs)))

-- ---- columns

behind_five : (schema : List Column) (place k : ℕ) → place ≡ suc (suc (suc (suc (suc k)))) → slice_get (columns_of schema) place ≡ slice_get schema k
unfolding hudi_names
behind_five schema place k e = ap (slice_get (columns_of schema)) e

pub behind_hudi : (schema : List Column) (place : ℕ) (c : Column) → 5 ≤ place → slice_get schema (place - 5) ≡ Some c → slice_get (columns_of schema) place ≡ Some c
behind_hudi schema place c le e = behind_five schema place (place - 5) (omega arith) ∙ e

pub columns_of-length : (schema : List Column) → length (columns_of schema) ≡ 5 + length schema
unfolding hudi_names
columns_of-length schema = omega arith
