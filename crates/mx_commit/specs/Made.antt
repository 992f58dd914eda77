-- The data files of a commit: the written forms of the rows of the ask.
use Rattle.std.specs.Prelude.{◌≡◌, ℕ, ◌+◌, ◌^◌, ◌-◌, min, nat_lt, List, [], ◌∷◌, length, map, find, Option, Some, None, Result, Ok, Err}
use Rattle.mx_ask.specs.declared.ask.FileRows.{FileRows}
use Rattle.mx_base.specs.Paths.{data_file_name}
use Rattle.mx_parquet.specs.Decoding.{Decodes}
use Rattle.mx_parquet.specs.Encoding.{encoding}
use Rattle.mx_parquet.specs.declared.row.FullRow.{FullRow}
use Rattle.mx_rows.specs.Filled.{Where, full_rows}
use Rattle.mx_schema.specs.declared.column.Column.{Column}
use Rattle.mx_commit.specs.declared.making.MakeError.{MakeError}
use Rattle.mx_commit.specs.declared.making.MakeError.TheVariants.{TooLarge, NoMemory}
use Rattle.mx_commit.specs.declared.new_file.NewFile.{NewFile}

-- where the rows of the file of this number are written
abbrev pub where_of : ℕ → ℕ → FileRows → Where
where_of at number file = record { at = at; number = number; partition = file.partition; name = data_file_name file.file at }

-- the bytes of the file: the one written form of its rows with Hudi's columns
abbrev pub file_bytes : List Column → ℕ → ℕ → FileRows → List ℕ
file_bytes schema at number file = encoding schema (full_rows schema (where_of at number file) file.rows)

-- a data file with its bytes
abbrev pub new_file : List Column → ℕ → ℕ → FileRows → NewFile
new_file schema at number file = record { partition = file.partition; file = file.file; rows = length file.rows; bytes = file_bytes schema at number file }

-- the data files, numbered from this number on
abbrev pub new_files_from : List Column → ℕ → ℕ → List FileRows → List NewFile
new_files_from schema at number [] = []
new_files_from schema at number (file ∷ files) = new_file schema at number file ∷ new_files_from schema at (number + 1) files

-- the data files of a commit at an instant, numbered from 0 in the order of the ask
abbrev pub new_files : List Column → ℕ → List FileRows → List NewFile
new_files schema at files = new_files_from schema at 0 files

-- the first of their lengths that is above 4,194,304 bytes
abbrev pub first_too_large : List NewFile → Option ℕ
first_too_large files = find (λ size. nat_lt 4194304 size) (map (λ (file : NewFile). length file.bytes) files)

-- its bytes stand for rows of the schema
abbrev pub IsFileOf : List Column → NewFile → Type 0
IsFileOf schema file = (rows : List FullRow) × Decodes file.bytes schema rows

-- the files are made where none is too large; else the length of the first that is, as 64 bits tell it
abbrev pub TellsSize : {T : Type 0} → List NewFile → Result T MakeError → Type 0
TellsSize files (Ok made) = first_too_large files ≡ None
TellsSize files (Err (TooLarge bytes)) = (size : ℕ) × (first_too_large files ≡ Some size) × (bytes ≡ min size (2 ^ 64 - 1))
TellsSize files (Err NoMemory) = Unit {0}
