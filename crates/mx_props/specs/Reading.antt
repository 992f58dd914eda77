-- What the reader of one line finds.
use Rattle.std.specs.Prelude.{◌≡◌, ◌≢◌, ℕ, ◌==◌, ◌&&◌, not, nat_lt, Bool, true, List, ◌++◌, Option, Result, Ok, Err}
use Rattle.std.specs.List.{list_all}
use Rattle.mx_base.specs.declared.part.Part.{Part}
use Rattle.mx_schema.specs.declared.column.Column.{Column}
use Rattle.mx_props.specs.declared.error.PropsError.{PropsError}
use Rattle.mx_props.specs.declared.error.PropsError.TheVariants as errors
use Rattle.mx_props.specs.Config.{Config}

-- a byte below 128 that is no newline
abbrev pub is_plain_byte : ℕ → Bool
is_plain_byte byte = nat_lt byte 128 && not (byte == 10)

abbrev pub IsPlain : List ℕ → Type 0
IsPlain text = list_all is_plain_byte text ≡ true

-- no byte is a newline
abbrev pub IsOneLine : List ℕ → Type 0
IsOneLine text = list_all (λ byte. not (byte == 10)) text ≡ true

-- no line of a value stands in front, unless memory ran out
abbrev pub Refuses : {V : Type 0} → (V → Type 0) → ℕ → (V → List ℕ) → List ℕ → PropsError → Type 0
Refuses IsValue at line bytes errors.NoMemory = Unit {0}
Refuses IsValue at line bytes (errors.BadProps found) = (found ≡ at) × ((value : _) (rest : List ℕ) → IsValue value → bytes ≢ line value ++ rest)
Refuses IsValue at line bytes (errors.Version found) = ⊥

-- the value whose line stands in front, and what is left
abbrev pub Reads : {X V : Type 0} → (X → V × List ℕ) → (V → Type 0) → ℕ → (V → List ℕ) → List ℕ → Result X PropsError → Type 0
Reads view IsValue at line bytes (Ok x) = IsValue ((view x).0) × (bytes ≡ line ((view x).0) ++ (view x).1)
Reads view IsValue at line bytes (Err e) = Refuses IsValue at line bytes e

-- the config of what the four lines gave
abbrev pub config_of : List Part × Option Part × List Column → Config
config_of x = record { available = x.0; building = x.1; schema = x.2 }
