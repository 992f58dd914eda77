-- Reading a value's parts: each reader gives None where the value is of another form.
use Rattle.std.specs.Prelude.{ℕ, ◌^◌, List, [], ◌∷◌, Bool, map, nat_lt, if◌then◌else◌, Option, Some, None, option_map, option_and_then}
use Rattle.std.specs.List.{find}
use Rattle.std.specs.Str.{is_utf8, bytes_eq}
use Rattle.std.specs.Cmp.Lexicographic.{pointwise}
use Rattle.serde_json.specs.Data.{Data, string, array, Items, no_items, item, Members, no_members, member}
use Rattle.serde_json.specs.Find.{get, as_str, as_number, as_u64, as_array, as_object}
use Rattle.serde_json.specs.Read.{read}
use Rattle.serde_json.specs.View.{items_of}
use Rattle.mx_base.specs.Names.{is_path}
use Rattle.mx_base.specs.Parts.{part_name}
use Rattle.mx_base.specs.Paths.{instant_of}
use Rattle.mx_base.specs.declared.part.Part.{Part}
use Rattle.mx_base.specs.declared.part.Part.TheVariants.{Files, ColumnStats, BloomFilters, RecordIndex}
use Rattle.mx_meta.specs.Rising.{is_rising, bytes_below, part_below}

-- the value that bytes spell as JSON
unfoldable pub json_of : List ℕ → Option Data
json_of bytes = if is_utf8 bytes then read bytes else None

-- the names of an object's members, in byte order
abbrev pub names_of : Members → List (List ℕ)
names_of no_members = []
names_of (member name d ms) = name ∷ names_of ms

-- the value, where it is an object of exactly these names
abbrev pub with_names : List (List ℕ) → Data → Option Data
with_names names d = option_and_then (λ ms. if pointwise bytes_eq (names_of ms) names then Some d else None) (as_object d)

-- what is read of the member of a name
abbrev pub field_in : {T : Type 0} → (Data → Option T) → List ℕ → Data → Option T
field_in f name d = option_and_then f (get name d)

-- what is read of every item
abbrev pub each_in : {T : Type 0} → (Data → Option T) → Items → Option (List T)
each_in f no_items = Some []
each_in f (item d ds) = option_and_then (λ x. option_map (λ xs. x ∷ xs) (each_in f ds)) (f d)

-- a text that passes a test
abbrev pub text_in : (List ℕ → Bool) → Data → Option (List ℕ)
text_in test d = option_and_then (λ text. if test text then Some text else None) (as_str d)

-- a whole number below 2^64
abbrev pub number_in : Data → Option ℕ
number_in d = option_and_then as_u64 (as_number d)

-- a whole number from 0 to 2^63 - 1
unfoldable pub count_in : Data → Option ℕ
count_in d = option_and_then (λ n. if nat_lt n (2 ^ 63) then Some n else None) (number_in d)

-- what passes a test
abbrev pub passing : {T : Type 0} → (T → Bool) → Option T → Option T
passing test o = option_and_then (λ x. if test x then Some x else None) o

-- an instant is seventeen digits
unfoldable pub instant_in : Data → Option ℕ
instant_in d = option_and_then instant_of (as_str d)

-- an instant that is not 0
unfoldable pub some_instant_in : Data → Option ℕ
some_instant_in d = passing (nat_lt 0) (instant_in d)

-- an index partition is its name
unfoldable pub part_in : Data → Option Part
part_in d = option_and_then (λ text. find (λ part. bytes_eq text (part_name part)) (Files ∷ ColumnStats ∷ BloomFilters ∷ RecordIndex ∷ [])) (as_str d)

-- index partitions in their order
unfoldable pub parts_in : Data → Option (List Part)
parts_in d = passing (is_rising part_below) (option_and_then (each_in part_in) (as_array d))

-- a list of paths
unfoldable pub paths_in : Data → Option (List (List ℕ))
paths_in d = option_and_then (each_in (text_in is_path)) (as_array d)

-- paths in the order of their bytes
unfoldable pub rising_paths_in : Data → Option (List (List ℕ))
rising_paths_in d = passing (is_rising bytes_below) (paths_in d)

-- the value of a list of paths
unfoldable pub paths_data : List (List ℕ) → Data
paths_data paths = array (items_of (map string paths))
