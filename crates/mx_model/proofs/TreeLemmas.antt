-- A tree of partitions seen as the map of the files.
use Rattle.std.proofs.Common.{◌≡◌, ℕ, List, [], map, Option, Some, sym, ◌∙◌, ap}
use Rattle.std.specs.Prelude.{unwrap_or}
use Rattle.std.specs.BTreeMap as tree
use Rattle.std.specs.BTreeMap.{BTreeMap}
use Rattle.std.specs.Map.{set_value}
use Rattle.std.specs.Ordering.{nat_cmp}
use Rattle.std.specs.Cmp.Lexicographic.{slice_cmp}
use Rattle.std.specs.FinMap as finmap
use Rattle.std.proofs.lemmas.Map.Steps.{set_value_same}
use Rattle.mx_merge.specs.Shown.{SizeMap}
use Rattle.mx_files.specs.Files.{FilesMap, sizes_in}
use Rattle.mx_model.specs.Answer.{file_sizes}
use Rattle.mx_lists.proofs.TreeLemmas.{R, get-tree, tree-insert, entries-empty}

module _ (m : BTreeMap (List ℕ) SizeMap) (files : FilesMap) (view_is : finmap.from_entries {R = R} m.entries ≡ files) where
  pub sizes_in-tree : (partition : List ℕ) (found : Option SizeMap) → found ≡ tree.get R m partition → sizes_in files partition ≡ unwrap_or found finmap.empty
  sizes_in-tree partition found is =
      ap (λ (f : FilesMap). sizes_in f partition) (sym view_is)
      ∙ ap (λ (o : Option SizeMap). unwrap_or o finmap.empty) (get-tree m partition ∙ sym is)

  -- the sizes that a partition had, and one more file
  pub grown-tree : (n : BTreeMap (List ℕ) SizeMap) (partition name : List ℕ) (size : ℕ) (found : Option SizeMap) (sizes : SizeMap) →
      found ≡ tree.get R m partition → sizes ≡ finmap.insert (unwrap_or found finmap.empty) name size →
      tree.Updates R m n partition (Some sizes) → finmap.from_entries {R = R} n.entries ≡ finmap.insert files partition (finmap.insert (sizes_in files partition) name size)
  grown-tree n partition name size found sizes is grown updates =
      tree-insert m n partition sizes updates
      ∙ ap (λ (f : FilesMap). finmap.insert f partition sizes) view_is
      ∙ ap (λ (s : SizeMap). finmap.insert files partition s)
      (grown ∙ ap (λ (s : SizeMap). finmap.insert s name size) (sym (sizes_in-tree partition found is)))

  -- the sizes that a partition had, written back
  pub same_tree : (n : BTreeMap (List ℕ) SizeMap) (partition : List ℕ) (had sizes : SizeMap) → Some had ≡ tree.get R m partition → sizes ≡ had →
      n.entries ≡ set_value (tree.is_at (slice_cmp nat_cmp partition)) m.entries sizes → finmap.from_entries {R = R} n.entries ≡ files
  same_tree n partition had sizes is unchanged writes =
      let test = tree.is_at (slice_cmp nat_cmp partition) in
      ap (λ (es : List (List ℕ × SizeMap)). finmap.from_entries {R = R} es)
      (writes ∙ ap (λ (s : SizeMap). set_value test m.entries s) unchanged ∙ set_value_same test m.entries had (sym is))
      ∙ view_is

pub file_sizes-empty : file_sizes finmap.empty ≡ []
file_sizes-empty = ap (λ (es : List (List ℕ × ℕ)). map (λ e. record { name = e.0; size = e.1 }) es) (entries-empty ℕ)
