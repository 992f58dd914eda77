-- Whether one data file is made.
use Rattle.std.specs.Prelude.{◌≡◌, ℕ, ◌≤◌, ◌<◌, ◌^◌, ◌-◌, min, Result, Ok, Err}
use Rattle.mx_commit.specs.declared.making.MakeError.{MakeError}
use Rattle.mx_commit.specs.declared.making.MakeError.TheVariants.{TooLarge, NoMemory}

-- a file of this length is made where that is at most 4,194,304 bytes; else its length is told
abbrev pub TellsLength : {T : Type 0} → ℕ → Result T MakeError → Type 0
TellsLength size (Ok made) = size ≤ 4194304
TellsLength size (Err (TooLarge bytes)) = (4194304 < size) × (bytes ≡ min size (2 ^ 64 - 1))
TellsLength size (Err NoMemory) = Unit {0}
