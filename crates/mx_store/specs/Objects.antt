-- The objects that a journal leaves.
use Rattle.std.specs.Prelude.{ℕ, ◌≤◌, List, [], ◌∷◌, length, take, filter, Option}
use Rattle.std.specs.Ordering.{nat_cmp}
use Rattle.std.specs.Cmp.Lexicographic.{slice_cmp}
use Rattle.std.specs.FinMap as map
use Rattle.std.specs.Prelude.{nat_eq}
use Rattle.std.specs.List.{starts_with}
use Rattle.mx_store.specs.declared.change.Change.{Change}
use Rattle.mx_store.specs.declared.change.Change.TheVariants.{Create, Put, Delete}

-- from paths to bytes
abbrev pub Objects : Type 0
Objects = map.FinMap (slice_cmp nat_cmp) (List ℕ)

-- the bytes at a path
abbrev pub at_path : Objects → List ℕ → Option (List ℕ)
at_path objects path = map.get objects path

-- what one change leaves
abbrev pub apply : Change → Objects → Objects
apply (Create path bytes) objects = map.insert objects path bytes
apply (Put path bytes) objects = map.insert objects path bytes
apply (Delete path) objects = map.remove objects path

-- what the changes leave, begun with these objects
abbrev pub after_all : Objects → List Change → Objects
after_all objects [] = objects
after_all objects (change ∷ changes) = after_all (apply change objects) changes

-- what a journal leaves, begun with no object
abbrev pub objects_of : List Change → Objects
objects_of journal = after_all map.empty journal

-- the paths that begin with the prefix, in byte order
abbrev pub paths_with : List ℕ → Objects → List (List ℕ)
paths_with prefix objects = filter (λ path. starts_with nat_eq path prefix) (map.keys objects)

-- every prefix of the later journal that is at least as long as the earlier one is so
abbrev pub EachSince : (Objects → Type 0) → ℕ → List Change → Type 0
EachSince P length_before journal = (n : ℕ) → length_before ≤ n → n ≤ length journal → P (objects_of (take n journal))
