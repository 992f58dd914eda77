-- Files of other names may be put into a map in any order.
use Rattle.std.proofs.Common.{◌≡◌, ◌≢◌, ⊎_elim, ℕ, Bool, true, false, cond, List, Option, Some, refl, sym, ◌∙◌, ap}
use Rattle.std.specs.Prelude.{fold, unwrap_or}
use Rattle.std.specs.FinMap as finmap
use Rattle.std.specs.FinMap.{FinMap}
use Rattle.std.specs.Ordering.{nat_cmp, eq_by_cmp}
use Rattle.std.specs.Cmp.Lexicographic.{slice_cmp, nat_list_cmp_total}
use Rattle.mx_base.specs.declared.entry.FileAt.{FileAt}
use Rattle.mx_files.specs.Files.{FilesMap, name_of, sizes_in, with_file}
use Rattle.mx_merge.specs.Shown.{SizeMap}
use Rattle.mx_store.proofs.Paths.{cases_path, same_path, path_same, path_other}
use Rattle.mx_folder.proofs.FoldLemmas.{Among, AreApart, fold_same}

-- ---- two entries of a map

module _ {V : Type 0} (m : FinMap (slice_cmp nat_cmp) V) where
  same_entry : {A : Type 0} (b : Bool) (w v : A) (rest : A) → cond b w (cond b v rest) ≡ cond b w rest
  same_entry true w v rest = refl
  same_entry false w v rest = refl

  insert_again : (k : List ℕ) (v w : V) → finmap.insert (finmap.insert m k v) k w ≡ finmap.insert m k w
  insert_again k v w = finmap.same_map nat_list_cmp_total (finmap.slice_cmp-IsAntisymmetric finmap.nat_cmp-IsAntisymmetric) _ _ (λ q.
      finmap.get-insert nat_list_cmp_total (finmap.insert m k v) k w q
      ∙ ap (λ (o : Option V). cond (eq_by_cmp (slice_cmp nat_cmp) q k) (Some w) o) (finmap.get-insert nat_list_cmp_total m k v q)
      ∙ same_entry (eq_by_cmp (slice_cmp nat_cmp) q k) (Some w) (Some v) (finmap.get m q)
      ∙ sym (finmap.get-insert nat_list_cmp_total m k w q))

  module _ (k l : List ℕ) (v w : V) (other : k ≢ l) where
    in_turn : (q : List ℕ) (a b : Bool) → eq_by_cmp (slice_cmp nat_cmp) q l ≡ a → eq_by_cmp (slice_cmp nat_cmp) q k ≡ b → (rest : Option V) → cond a (Some w) (cond b (Some v) rest) ≡ cond b (Some v) (cond a (Some w) rest)
    in_turn q true true first second rest = absurd (other (sym (same_path q k second) ∙ same_path q l first))
    in_turn q true false first second rest = refl
    in_turn q false true first second rest = refl
    in_turn q false false first second rest = refl

    insert_other : finmap.insert (finmap.insert m k v) l w ≡ finmap.insert (finmap.insert m l w) k v
    insert_other = finmap.same_map nat_list_cmp_total (finmap.slice_cmp-IsAntisymmetric finmap.nat_cmp-IsAntisymmetric) _ _ (λ q.
        finmap.get-insert nat_list_cmp_total (finmap.insert m k v) l w q
        ∙ ap (λ (o : Option V). cond (eq_by_cmp (slice_cmp nat_cmp) q l) (Some w) o) (finmap.get-insert nat_list_cmp_total m k v q)
        ∙ in_turn q (eq_by_cmp (slice_cmp nat_cmp) q l) (eq_by_cmp (slice_cmp nat_cmp) q k) refl refl (finmap.get m q)
        ∙ ap (λ (o : Option V). cond (eq_by_cmp (slice_cmp nat_cmp) q k) (Some v) o) (sym (finmap.get-insert nat_list_cmp_total m l w q))
        ∙ sym (finmap.get-insert nat_list_cmp_total (finmap.insert m l w) k v q))

-- ---- two files of a map

-- the files are of other partitions or of other names
abbrev pub IsOtherFile : FileAt → FileAt → Type 0
IsOtherFile x y = ¬ ((x.partition ≡ y.partition) × (name_of x ≡ name_of y))

module _ (m : FilesMap) where
  sizes_here : (p : List ℕ) (sizes : SizeMap) → sizes_in (finmap.insert m p sizes) p ≡ sizes
  sizes_here p sizes = ap (λ (o : Option SizeMap). unwrap_or o finmap.empty) (finmap.get-insert nat_list_cmp_total m p sizes p ∙ ap (λ (b : Bool). cond b (Some sizes) (finmap.get m p)) (path_same p))

  sizes_there : (p q : List ℕ) (sizes : SizeMap) → q ≢ p → sizes_in (finmap.insert m p sizes) q ≡ sizes_in m q
  sizes_there p q sizes other = ap (λ (o : Option SizeMap). unwrap_or o finmap.empty) (finmap.get-insert nat_list_cmp_total m p sizes q ∙ ap (λ (b : Bool). cond b (Some sizes) (finmap.get m q)) (path_other q p other))

-- the sizes of a partition with one more file
abbrev grown : FilesMap → List ℕ → List ℕ → ℕ → FilesMap
grown m p name size = finmap.insert m p (finmap.insert (sizes_in m p) name size)

-- two files of one partition
in_one : (m : FilesMap) (p a b : List ℕ) (s t : ℕ) → grown (grown m p a s) p b t ≡ finmap.insert m p (finmap.insert (finmap.insert (sizes_in m p) a s) b t)
in_one m p a b s t =
    ap (λ (sizes : SizeMap). finmap.insert (finmap.insert m p (finmap.insert (sizes_in m p) a s)) p (finmap.insert sizes b t)) (sizes_here m p (finmap.insert (sizes_in m p) a s))
    ∙ insert_again m p (finmap.insert (sizes_in m p) a s) (finmap.insert (finmap.insert (sizes_in m p) a s) b t)

-- files of two partitions
in_two : (m : FilesMap) (p q a b : List ℕ) (s t : ℕ) → p ≢ q → grown (grown m p a s) q b t ≡ finmap.insert (finmap.insert m p (finmap.insert (sizes_in m p) a s)) q (finmap.insert (sizes_in m q) b t)
in_two m p q a b s t other =
    ap (λ (sizes : SizeMap). finmap.insert (finmap.insert m p (finmap.insert (sizes_in m p) a s)) q (finmap.insert sizes b t))
    (sizes_there m p q (finmap.insert (sizes_in m p) a s) (λ same. other (sym same)))

grown_commutes : (m : FilesMap) (p q a b : List ℕ) (s t : ℕ) → ¬ ((p ≡ q) × (a ≡ b)) → grown (grown m p a s) q b t ≡ grown (grown m q b t) p a s
grown_commutes m p q a b s t other = ⊎_elim
    (λ (same : p ≡ q).
    ap (λ (r : List ℕ). grown (grown m r a s) q b t) same
    ∙ in_one m q a b s t
    ∙ ap (finmap.insert m q) (insert_other (sizes_in m q) a b s t (λ named. other (same, named)))
    ∙ sym (in_one m q b a t s)
    ∙ ap (λ (r : List ℕ). grown (grown m q b t) r a s) (sym same))
    (λ (differ : p ≢ q).
    in_two m p q a b s t differ
    ∙ insert_other m p q (finmap.insert (sizes_in m p) a s) (finmap.insert (sizes_in m q) b t) differ
    ∙ sym (in_two m q p b a t s (λ same. differ (sym same))))
    (cases_path p q)

commutes : (m : FilesMap) (x y : FileAt) → IsOtherFile x y → with_file (with_file m x) y ≡ with_file (with_file m y) x
commutes m x y other = grown_commutes m x.partition y.partition (name_of x) (name_of y) x.size y.size other

-- lists that have the same files, each once, add the same to a map
pub files_same : (xs ys : List FileAt) → AreApart IsOtherFile xs → AreApart IsOtherFile ys → ((z : FileAt) → Among z xs → Among z ys) → ((z : FileAt) → Among z ys → Among z xs) → (m : FilesMap) → fold with_file m xs ≡ fold with_file m ys
files_same xs ys all others into back m = fold_same IsOtherFile (λ x other. other (refl, refl)) with_file commutes xs ys all others into back m
