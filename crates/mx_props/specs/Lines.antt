-- The first bad line of a config.
use Rattle.std.specs.Prelude.{◌≡◌, ℕ, ◌+◌, ◌==◌, List, [], ◌∷◌, take, Result, Ok, Err, if◌then◌else◌}
use Rattle.std.specs.List.{onto_first}
use Rattle.mx_props.specs.declared.error.PropsError.{PropsError}
use Rattle.mx_props.specs.declared.error.PropsError.TheVariants as errors
use Rattle.mx_props.specs.Config.{Config, IsConfig, config_lines}
use Rattle.mx_props.specs.Version.{GivesAnother}

-- the lines of bytes, each with its newline; a last piece without one is a line where it is not empty
abbrev pub lines_of : List ℕ → List (List ℕ)
lines_of [] = []
lines_of (byte ∷ bytes) = if byte == 10 then (10 ∷ []) ∷ lines_of bytes else onto_first byte (lines_of bytes)

-- the first so many lines are those of some config
abbrev pub BeginsAConfig : ℕ → List ℕ → Type 0
BeginsAConfig count bytes = (config : Config) × IsConfig config × (take count (lines_of bytes) ≡ take count (config_lines config))

-- the first bad line: those before it are the first ones of some config, and with it they are not
pub record IsFirstBad (bytes : List ℕ) (line : ℕ) : Type 0 where
  pub before : BeginsAConfig line bytes
  pub here : ¬ (BeginsAConfig (line + 1) bytes)

-- a refusal names the first bad line, unless memory ran out
abbrev pub SaysBadLine : {T : Type 0} → List ℕ → Result T PropsError → Type 0
SaysBadLine bytes (Ok config) = Unit {0}
SaysBadLine bytes (Err errors.NoMemory) = Unit {0}
SaysBadLine bytes (Err (errors.BadProps line)) = IsFirstBad bytes line
SaysBadLine bytes (Err (errors.Version found)) = ⊥

-- another version is told first, and else the first bad line, unless memory ran out
abbrev pub SaysWhy : List ℕ → Result Config PropsError → Type 0
SaysWhy bytes (Ok config) = Unit {0}
SaysWhy bytes (Err errors.NoMemory) = Unit {0}
SaysWhy bytes (Err (errors.BadProps line)) = IsFirstBad bytes line
SaysWhy bytes (Err (errors.Version found)) = GivesAnother bytes found

-- the answer is this config, unless memory ran out
abbrev pub IsOnly : Config → Result Config PropsError → Type 0
IsOnly config (Ok found) = found ≡ config
IsOnly config (Err errors.NoMemory) = Unit {0}
IsOnly config (Err (errors.BadProps line)) = ⊥
IsOnly config (Err (errors.Version found)) = ⊥
