use Rattle.std.proofs.Common.{◌≡◌, ◌++◌, drop}
use Rattle.std.specs.Prelude.{option_map}
use Rattle.mx_meta.specs.Places.{places_of}
use Rattle.mx_meta.proofs.places.places_of.Given as goal

-- what is left decides
abbrev pub invariant-loop-path : goal.invariant-loop-path
invariant-loop-path l = option_map (λ more. l.places ++ more) (places_of l.file (drop l.path-index l.paths)) ≡ places_of l.file l.paths
