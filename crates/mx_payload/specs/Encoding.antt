-- The bytes of a payload.
use Rattle.std.specs.Prelude.{ℕ, pos, Bool, true, false, List, [], ◌∷◌, ◌++◌, length, map}
use Rattle.std.specs.List.{flat_map}
use Rattle.mx_avro.specs.Encoding.{long_encoding, bytes_encoding}
use Rattle.mx_schema.specs.declared.cell.Cell.{Cell}
use Rattle.mx_schema.specs.declared.cell.Cell.TheVariants as cells
use Rattle.mx_schema.specs.declared.column_stat.ColumnStat.{ColumnStat}
use Rattle.mx_payload.specs.declared.payload.NameWord.{NameWord}
use Rattle.mx_payload.specs.declared.payload.Payload.{Payload}
use Rattle.mx_payload.specs.declared.payload.Payload.TheVariants.{Partitions, Files, Stats, Bloom, Location}
use Rattle.mx_payload.specs.Rules.{plain}

-- a number that is not below 0
abbrev pub long : ℕ → List ℕ
long n = long_encoding (pos n)

-- a truth value is one byte
abbrev pub flag : Bool → List ℕ
flag false = 0 ∷ []
flag true = 1 ∷ []

-- a union is the number of its branch, and the value where the branch is not null
abbrev pub absent : List ℕ
absent = long 0

-- a union whose value is present
abbrev pub present : List ℕ → List ℕ
present value = long 1 ++ value

-- a cell is a union of null, a truth value, an int, a long and a string
abbrev pub cell_bytes : Cell → List ℕ
cell_bytes cells.Null = long 0
cell_bytes (cells.Flag b) = long 1 ++ flag b
cell_bytes (cells.Small n) = long 2 ++ long_encoding n
cell_bytes (cells.Whole n) = long 3 ++ long_encoding n
cell_bytes (cells.Text text) = long 4 ++ bytes_encoding text

-- a pair of a map is the name, the size and whether it was taken out
abbrev pub word : NameWord → List ℕ
word w = bytes_encoding w.name ++ long w.size ++ flag w.deleted

-- a map is one block, how many pairs and the pairs, and 0 behind it; the empty map is just 0
abbrev pub word_map : List NameWord → List ℕ
word_map [] = long 0
word_map (w ∷ words) = long (length (w ∷ words)) ++ flat_map word (w ∷ words) ++ long 0

-- the bounds of a column, its four numbers and whether they were taken out
abbrev pub stat_bytes : ColumnStat → Bool → List ℕ
stat_bytes s deleted = cell_bytes s.min ++ cell_bytes s.max ++ long s.values ++ long s.nulls ++ long s.size ++ long s.uncompressed ++ flag deleted

-- the stats of a column of a file
unfoldable pub column_bytes : List ℕ → List ℕ → ColumnStat → Bool → List ℕ
column_bytes file column s deleted = bytes_encoding file ++ bytes_encoding column ++ stat_bytes s deleted

-- where a record lies, and since when
unfoldable pub place_bytes : List ℕ → List ℕ → ℕ → Bool → List ℕ
place_bytes partition file instant deleted = bytes_encoding partition ++ bytes_encoding file ++ long instant ++ flag deleted

-- the key is the empty string, since the entry has the key, and then comes the kind
abbrev pub head : ℕ → List ℕ
head kind = long 0 ++ long kind

-- the files, the filter, the stats and the location, of which one is present
abbrev pub encoding : Payload → List ℕ
encoding (Partitions names) = head 1 ++ present (word_map (map plain names)) ++ absent ++ absent ++ absent
encoding (Files words) = head 2 ++ present (word_map words) ++ absent ++ absent ++ absent
encoding (Stats file column s deleted) = head 3 ++ absent ++ absent ++ present (column_bytes file column s deleted) ++ absent
encoding (Bloom bits deleted) = head 4 ++ absent ++ present (bytes_encoding bits ++ flag deleted) ++ absent ++ absent
encoding (Location partition file instant deleted) = head 5 ++ absent ++ absent ++ absent ++ present (place_bytes partition file instant deleted)
