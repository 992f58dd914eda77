-- What is read of the pages of a chunk.
use Rattle.std.specs.Prelude.{◌≡◌, ℕ, ◌^◌, ◌<◌, ◌≤◌, Bool, true, false, List, ◌++◌, length, map, replicate, Result, Ok, Err}
use Rattle.std.specs.List.{AllByRecursion}
use Rattle.std.specs.Str.{IsUtf8}
use Rattle.std.specs.Int.{w32, w64, from_le_bytes, cast_signed, cast_unsigned}
use Rattle.mx_schema.specs.declared.cell.Cell.{Cell}
use Rattle.mx_schema.specs.declared.cell.Cell.TheVariants as cells
use Rattle.mx_schema.specs.declared.column.ColumnKind.{ColumnKind}
use Rattle.mx_schema.specs.declared.column.ColumnKind.TheVariants as kinds
use Rattle.mx_parquet.specs.declared.error.Failure.{Failure}
use Rattle.mx_parquet.specs.declared.error.Failure.TheVariants as failures
use Rattle.mx_schema.specs.declared.column.Column.{Column}
use Rattle.mx_levels.specs.Decoding as levels
use Rattle.mx_thrift.specs.Grammar as thrift
use Rattle.mx_parquet.specs.declared.error.ParquetError.{ParquetError}
use Rattle.mx_parquet.specs.declared.error.ParquetError.TheVariants as errors
use Rattle.mx_parquet.specs.declared.header.PageSize.{PageSize}
use Rattle.mx_parquet.specs.Shape.{Struct}
use Rattle.mx_parquet.specs.Pages.{number, is_present}
use Rattle.mx_parquet.specs.Decoding.{AreValues, IsPageHeader, IsPageOf, FoundPage, IsFoundPage, ArePages}

-- a cell as it is read, a number by its bytes
abbrev pub fitted : Cell → Cell
fitted cells.Null = cells.Null
fitted (cells.Flag flag) = cells.Flag flag
fitted (cells.Small n) = cells.Small (cast_signed w32 (from_le_bytes w32 (number w32 (cast_unsigned w32 n))))
fitted (cells.Whole n) = cells.Whole (cast_signed w64 (from_le_bytes w64 (number w64 (cast_unsigned w64 n))))
fitted (cells.Text text) = cells.Text text

-- the answer meets a condition, and what meets it is read so; a flaw says that nothing does
abbrev pub Reads : (List Cell → Type 0) → Result (List Cell) Failure → Type 0
Reads Meets (Ok held) = Meets held × ((other : List Cell) → Meets other → map fitted other ≡ held)
Reads Meets (Err failures.NoMemory) = Unit {0}
Reads Meets (Err (failures.Flawed flaw)) = (held : List Cell) → ¬ (Meets held)

-- a cell of a kind, or null
abbrev pub IsOfKind : ColumnKind → Cell → Type 0
IsOfKind kind cells.Null = Unit {0}
IsOfKind kind (cells.Flag flag) = kind ≡ kinds.Boolean
IsOfKind kind (cells.Small n) = kind ≡ kinds.Int32
IsOfKind kind (cells.Whole n) = kind ≡ kinds.Int64
IsOfKind kind (cells.Text text) = (kind ≡ kinds.Text) × IsUtf8 text

-- cells of these levels and these bytes
pub record AreCells (kind : ColumnKind) (levels : List Bool) (bytes : List ℕ) (held : List Cell) : Type 0 where
  pub present : map is_present held ≡ levels
  pub valued : AreValues kind bytes held
  pub each : AllByRecursion (IsOfKind kind) held

-- the answer, seen by view, is the only value that meets a condition; a flaw says that none does
abbrev pub FindsOne : {X A : Type 0} → (X → A) → (A → Type 0) → Result X Failure → Type 0
FindsOne {X} {A} view Meets (Ok x) = Meets (view x) × ((y : A) → Meets y → y ≡ view x)
FindsOne view Meets (Err failures.NoMemory) = Unit {0}
FindsOne {X} {A} view Meets (Err (failures.Flawed flaw)) = (y : A) → ¬ (Meets y)

-- so many levels in front of bytes, and what stands behind them
abbrev pub AreLevelsIn : Bool → ℕ → List ℕ → List Bool × List ℕ → Type 0
AreLevelsIn false count bytes x = (x.0 ≡ replicate count true) × (x.1 ≡ bytes)
AreLevelsIn true count bytes x =
    (body : List ℕ) × (length body < 2 ^ 32) × (bytes ≡ number w32 (length body) ++ body ++ x.1) × levels.Decodes body count x.0

-- the answer, seen by view, meets a condition, and what meets it is read so; an error says that nothing does
abbrev pub ReadsAt : {X A : Type 0} → (A → A) → (X → A) → (A → Type 0) → Result X ParquetError → Type 0
ReadsAt {X} {A} as_read view Meets (Ok x) = Meets (view x) × ((y : A) → Meets y → as_read y ≡ view x)
ReadsAt as_read view Meets (Err errors.NoMemory) = Unit {0}
ReadsAt {X} {A} as_read view Meets (Err (errors.BadParquet at)) = (y : A) → ¬ (Meets y)
ReadsAt {X} {A} as_read view Meets (Err (errors.Unsupported what)) = (y : A) → ¬ (Meets y)

-- a page header in front of bytes, by what it says, and what stands behind it
pub record IsHeaderIn (bytes : List ℕ) (x : PageSize × List ℕ) : Type 0 where
  pub header : List ℕ
  pub fields : Struct
  pub parts : bytes ≡ header ++ x.1
  pub said : thrift.Decodes header fields
  pub headed : IsPageHeader fields x.0.value_count x.0.size

-- the cells of a page of this size in front of bytes, at most so many, and what stands behind it
pub record IsBodyIn (column : Column) (most : ℕ) (page : PageSize) (bytes : List ℕ) (x : List Cell × List ℕ) : Type 0 where
  pub body : List ℕ
  pub parts : bytes ≡ body ++ x.1
  pub sized : length body ≡ page.size
  pub counted : length x.0 ≡ page.value_count
  pub few : length x.0 ≤ most
  pub is_page : IsPageOf column body x.0

-- the cells of a page behind its header in front of bytes, at most so many, and what stands behind it
pub record IsPageIn (column : Column) (most : ℕ) (bytes : List ℕ) (x : List Cell × List ℕ) : Type 0 where
  pub page : FoundPage
  pub found : IsFoundPage column page
  pub parts : bytes ≡ page.header ++ page.body ++ x.1
  pub all : page.held ≡ x.0
  pub few : length x.0 ≤ most

-- the cells as they are read
abbrev pub fitted_front : List Cell × List ℕ → List Cell × List ℕ
fitted_front x = (map fitted x.0, x.1)

-- so many cells of pages that fill bytes
abbrev pub FillPages : Column → ℕ → List ℕ → List Cell → Type 0
FillPages column count bytes held = ArePages column bytes held × (length held ≡ count)
