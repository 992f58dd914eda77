-- The instants of the commits that count.
use Rattle.std.specs.Prelude.{ℕ, zero, suc, List, [], ◌∷◌, ◌++◌, is_some, if◌then◌else◌}
use Rattle.mx_store.specs.Objects.{Objects}
use Rattle.mx_folder.specs.Named.{object_at, commit_name}

-- the instants of the completed commits at most at one, by rising instant
unfoldable pub completed_upto : Objects → ℕ → List ℕ
completed_upto objects zero = []
completed_upto objects (suc at) = completed_upto objects at ++ (if is_some (object_at objects (commit_name (suc at))) then suc at ∷ [] else [])
