-- Lists in a strict order.
use Rattle.std.specs.Prelude.{ℕ, ◌&&◌, nat_lt, Bool, true, List, [], ◌∷◌}
use Rattle.std.specs.Ordering.{nat_cmp, is_lt}
use Rattle.std.specs.Cmp.Lexicographic.{slice_cmp}
use Rattle.mx_base.specs.Parts.{part_place}
use Rattle.mx_base.specs.declared.part.Part.{Part}

-- each stands below the next, from this one on
abbrev pub rises_from : {T : Type 0} → (T → T → Bool) → T → List T → Bool
rises_from below x [] = true
rises_from below x (y ∷ ys) = below x y && rises_from below y ys

-- each stands below the next, so none stands twice
abbrev pub is_rising : {T : Type 0} → (T → T → Bool) → List T → Bool
is_rising below [] = true
is_rising below (x ∷ xs) = rises_from below x xs

-- the order of bytes
abbrev pub bytes_below : List ℕ → List ℕ → Bool
bytes_below x y = is_lt (slice_cmp nat_cmp x y)

-- the order of the index partitions
abbrev pub part_below : Part → Part → Bool
part_below x y = nat_lt (part_place x) (part_place y)
