-- The fields that an object is to have, and the field that it is refused for.
use Rattle.std.specs.Prelude.{◌≡◌, ℕ, List, [], ◌∷◌, ◌&&◌, map, Bool, true, false, not, is_some, MatchOption, if◌then◌else◌, Option, None, option_map, option_and_then, Result, Ok, Err}
use Rattle.std.specs.Ordering.{nat_cmp}
use Rattle.std.specs.declared.cmp.Ordering.TheVariants.{Less}
use Rattle.std.specs.List.{list_all}
use Rattle.std.specs.Str.{bytes_eq}
use Rattle.std.specs.Cmp.Lexicographic.{slice_cmp}
use Rattle.serde_json.specs.Data.{Data}
use Rattle.serde_json.specs.Find.{get, as_object}
use Rattle.mx_meta.specs.Json.{json_of, with_names, field_in}
use Rattle.mx_meta.specs.declared.error.MetaError.{MetaError}
use Rattle.mx_meta.specs.declared.error.MetaError.TheVariants.{BadMeta, NoMemory}

-- a field that an object is to have, and whether what stands there reads as its kind
pub record Field : Type 0 where
  pub name : List ℕ
  pub reads : Bool

-- the field of a name and of the reader of its kind
abbrev pub field : {T : Type 0} → List ℕ → (Data → Option T) → Data → Field
field name reader d = record { name = name; reads = is_some (field_in reader name d) }

-- a value, where it is an object of exactly these fields and each of them reads
abbrev pub with_fields : List Field → Data → Option Data
with_fields fields d = if list_all (λ f. f.reads) fields then with_names (map (λ f. f.name) fields) d else None

-- whether a name is bad: expected, and it is missing or does not read; or there and not expected
abbrev pub is_bad : List Field → Data → List ℕ → Bool
is_bad [] d name = is_some (get name d)
is_bad (f ∷ fields) d name = if bytes_eq f.name name then not (is_some (get name d) && f.reads) else is_bad fields d name

-- the least bad name in byte order
pub record IsFault (fields : List Field) (d : Data) (name : List ℕ) : Type 0 where
  pub bad : is_bad fields d name ≡ true
  pub least : (other : List ℕ) → slice_cmp nat_cmp other name ≡ Less → is_bad fields d other ≡ false

-- the object that bytes spell as JSON
unfoldable pub object_of : List ℕ → Option Data
object_of bytes = option_and_then (λ d. option_map (λ members. d) (as_object d)) (json_of bytes)

-- the name that bytes are refused for: their object's fault, and the empty text where they spell no object
abbrev pub IsRefusedFor : (Data → List Field) → List ℕ → List ℕ → Type 0
IsRefusedFor fields bytes name = MatchOption (object_of bytes) (name ≡ []) (λ d. IsFault (fields d) d name)

-- what is said of the field that an answer names as bad
abbrev pub IfBad : {T : Type 0} → Result T MetaError → (List ℕ → Type 0) → Type 0
IfBad (Ok value) P = Unit {0}
IfBad (Err (BadMeta name)) P = P name
IfBad (Err NoMemory) P = Unit {0}
