-- A map that holds what the changes leave.
use Rattle.std.proofs.Common.{◌≡◌, ℕ, List, [], ◌∷◌, ◌++◌, Some, None, sym, ◌∙◌, ap}
use Rattle.std.specs.BTreeMap as tree
use Rattle.std.specs.BTreeMap.{BTreeMap}
use Rattle.std.specs.FinMap as map
use Rattle.std.specs.FinMap.{get-empty}
use Rattle.std.specs.Map.{keys_of}
use Rattle.mx_lists.proofs.TreeLemmas.{R, same_map, get-tree, tree-insert, tree-remove, entries-tree}
use Rattle.mx_store.specs.declared.change.Change.{Change}
use Rattle.mx_store.specs.declared.change.Change.TheVariants.{Delete}
use Rattle.mx_store.specs.Objects.{Objects, apply, at_path, objects_of}
use Rattle.mx_store.specs.Memory.{Mirrors}
use Rattle.mx_store.proofs.Journal.{objects_of-push}

abbrev Map : Type 0
Map = BTreeMap (List ℕ) (List ℕ)

pub mirrors-nothing : (m : Map) → tree.IsEmpty m → Mirrors m []
mirrors-nothing m none q = rw none (sym (get-empty R q))

seen : (m : Map) (cs : List Change) → Mirrors m cs → map.from_entries {R = R} m.entries ≡ objects_of cs
seen m cs mirrors = same_map _ _ (λ q. get-tree m q ∙ mirrors q)

module _ (m n : Map) (cs : List Change) (path : List ℕ) (so_far : Mirrors m cs) where
  pub mirrors-insert : (bytes : List ℕ) (c : Change) → apply c (objects_of cs) ≡ map.insert (objects_of cs) path bytes → tree.Updates R m n path (Some bytes) → Mirrors n (cs ++ c ∷ [])
  mirrors-insert bytes c is updates q =
      sym (get-tree n q)
      ∙ ap (λ (o : Objects). at_path o q)
      (tree-insert m n path bytes updates ∙ ap (λ (o : Objects). map.insert o path bytes) (seen m cs so_far) ∙ sym (objects_of-push cs c ∙ is))

  pub mirrors-remove : tree.Updates R m n path None → Mirrors n (cs ++ Delete path ∷ [])
  mirrors-remove updates q =
      sym (get-tree n q)
      ∙ ap (λ (o : Objects). at_path o q)
      (tree-remove m n path updates ∙ ap (λ (o : Objects). map.remove o path) (seen m cs so_far) ∙ sym (objects_of-push cs (Delete path)))

pub mirrors-keys : (m : Map) (cs : List Change) → Mirrors m cs → tree.IsOrdered R m → tree.keys m ≡ map.keys (objects_of cs)
mirrors-keys m cs mirrors ordered =
    ap keys_of (sym (entries-tree m ordered)) ∙ ap (λ (o : Objects). map.keys o) (seen m cs mirrors)
