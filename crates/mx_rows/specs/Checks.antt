-- Which rows of a commit's files may not be written.
use Rattle.std.specs.Prelude.{◌≡◌, ℕ, List, [], ◌∷◌, take, Contains, Option, Some, None, slice_get, find, map, nat_lt, length, filter_map}
use Rattle.std.specs.List.{AllByRecursion}
use Rattle.mx_ask.specs.declared.ask.FileRows.{FileRows}
use Rattle.mx_schema.specs.Rows.{asked, FitsAll, IsFirstBad}
use Rattle.mx_schema.specs.declared.column.Column.{Column}
use Rattle.mx_schema.specs.declared.row.RowValue.{RowValue}
use Rattle.mx_schema.specs.declared.row.RowValue.TheVariants as values
use Rattle.mx_rows.specs.declared.bad_row.BadRow.{BadRow}

-- the elements of a row
abbrev pub Row : Type 0
Row = List RowValue

-- each row fits the columns
abbrev pub RowsFit : List Column → List Row → Type 0
RowsFit columns rows = AllByRecursion (FitsAll (asked columns)) rows

-- each row of each file does
abbrev pub FilesFit : List Column → List FileRows → Type 0
FilesFit columns files = AllByRecursion (λ (file : FileRows). RowsFit columns file.rows) files

-- the first bad place, in the order of files, of their rows and of the elements of a row
pub record IsFirstBadRow (columns : List Column) (files : List FileRows) (bad : BadRow) : Type 0 where
  pub file : FileRows
  pub is_file : slice_get files bad.file ≡ Some file
  pub row : Row
  pub is_row : slice_get file.rows bad.row ≡ Some row
  pub place : IsFirstBad (asked columns) row bad.column
  pub rows_before : RowsFit columns (take bad.row file.rows)
  pub files_before : FilesFit columns (take bad.file files)

-- the key of a row, none where it has none
abbrev pub key_of : Row → Option (List ℕ)
key_of [] = None
key_of (values.Null ∷ cells) = None
key_of (values.Flag flag ∷ cells) = None
key_of (values.Whole number ∷ cells) = None
key_of (values.Text key ∷ cells) = Some key

-- the keys of rows, in order
abbrev pub keys_of : List Row → List (List ℕ)
keys_of rows = filter_map key_of rows

-- no key stands twice
abbrev pub AreDistinct : List (List ℕ) → Type 0
AreDistinct [] = Unit {0}
AreDistinct (key ∷ keys) = ¬ (Contains keys key) × AreDistinct keys

-- the key of the first row that has that of an earlier one
pub record IsFirstDouble (keys : List (List ℕ)) (key : List ℕ) : Type 0 where
  pub at : ℕ
  pub stands : slice_get keys at ≡ Some key
  pub earlier : Contains (take at keys) key
  pub first : AreDistinct (take at keys)

-- no file has a key twice
abbrev pub HaveDistinct : List FileRows → Type 0
HaveDistinct files = AllByRecursion (λ (file : FileRows). AreDistinct (keys_of file.rows)) files

-- the key of the first such row, in the order of files and of their rows
pub record IsFirstDoubleRow (files : List FileRows) (key : List ℕ) : Type 0 where
  pub number : ℕ
  pub file : FileRows
  pub is_file : slice_get files number ≡ Some file
  pub double : IsFirstDouble (keys_of file.rows) key
  pub files_before : HaveDistinct (take number files)

-- the first of the files' counts of rows that is above 16,384
abbrev pub first_too_many : List FileRows → Option ℕ
first_too_many files = find (λ count. nat_lt 16384 count) (map (λ (file : FileRows). length file.rows) files)
