-- What contracts see of the objects that keep a rule.
use Rattle.std.specs.Prelude.{ℕ, List}
use Rattle.mx_base.specs.declared.part.Part.{Part}

-- an instant that is rolled back, and the paths that go
pub record Rollback : Type 0 where
  pub instant : ℕ
  pub paths : List (List ℕ)

-- index partitions that are folded up to an instant
pub record Compaction : Type 0 where
  pub parts : List Part
  pub upto : ℕ

-- bases that have everything up to an instant
pub record Bases : Type 0 where
  pub bases : List (List ℕ)
  pub upto : ℕ
