-- The first fault of a file in reading order: the footer, then row group by row group, column by column, page by page.
use Rattle.std.specs.Prelude.{◌≡◌, ◌≢◌, ℕ, ◌+◌, ◌-◌, ◌<◌, ◌≤◌, List, [], ◌∷◌, ◌++◌, length, take, drop, flat_map, Result, Ok, Err, ◌⊎◌}
use Rattle.std.specs.List.{AllByRecursion}
use Rattle.mx_schema.specs.declared.cell.Cell.{Cell}
use Rattle.mx_schema.specs.declared.column.Column.{Column}
use Rattle.mx_schema.specs.Columns.{IsSchema}
use Rattle.mx_thrift.specs.declared.error.ThriftError.{ThriftError}
use Rattle.mx_thrift.specs.Decoding.{struct_at}
use Rattle.mx_parquet.specs.declared.error.ParquetError.{ParquetError}
use Rattle.mx_parquet.specs.declared.error.ParquetError.TheVariants as errors
use Rattle.mx_parquet.specs.declared.header.PageSize.{PageSize}
use Rattle.mx_parquet.specs.declared.row.FullRow.{FullRow}
use Rattle.mx_parquet.specs.declared.layout.ChunkPlace.{ChunkPlace}
use Rattle.mx_parquet.specs.declared.layout.Group.{Group}
use Rattle.mx_parquet.specs.declared.layout.Layout.{Layout}
use Rattle.mx_parquet.specs.Shape.{Struct}
use Rattle.mx_parquet.specs.Columns.{columns_of}
use Rattle.mx_parquet.specs.Decoding.{FoundPage, IsFoundPage}
use Rattle.mx_parquet.specs.Headers.{header_in}
use Rattle.mx_parquet.specs.Held.{chunk_bytes}
use Rattle.mx_parquet.specs.Opening.{thrift_error, judged, footer_place}
use Rattle.mx_parquet.specs.Chunks.{IsBodyIn, FillPages}
use Rattle.mx_parquet.specs.Filling.{MayStand, FillColumn, IsGroupOf}

-- an error is such a fault, unless memory ran out
abbrev pub TellsFault : {X : Type 0} → (ParquetError → Type 0) → Result X ParquetError → Type 0
TellsFault IsFault (Ok x) = Unit {0}
TellsFault IsFault (Err errors.NoMemory) = Unit {0}
TellsFault IsFault (Err (errors.BadParquet at)) = IsFault (errors.BadParquet at)
TellsFault IsFault (Err (errors.Unsupported what)) = IsFault (errors.Unsupported what)

-- what was said in front of a place
abbrev pub said_before : ℕ → Result PageSize ParquetError → Result (PageSize × ℕ) ParquetError
said_before end (Ok size) = Ok (size, end)
said_before end (Err e) = Err e

-- what the struct at a place says as the header of a page
abbrev pub headed_at : ℕ → Result (Struct × ℕ) ThriftError → Result (PageSize × ℕ) ParquetError
headed_at at (Ok x) = said_before x.1 (judged at (header_in x.0))
headed_at at (Err e) = Err (thrift_error e)

-- what the header of a page says that begins at a place, and the place behind it; or the first broken rule
unfoldable pub header_at : List ℕ → ℕ → Result (PageSize × ℕ) ParquetError
header_at bytes at = headed_at at (struct_at bytes at)

-- the fault of a page of at most so many cells: that of its header, or else it is behind it, where no such page stands
abbrev pub IsPageFault : Column → ℕ → List ℕ → Result (PageSize × ℕ) ParquetError → ParquetError → Type 0
IsPageFault column most bytes (Err fault) e = e ≡ fault
IsPageFault column most bytes (Ok x) e = (e ≡ errors.BadParquet x.1) × ((y : List Cell × List ℕ) → ¬ (IsBodyIn column most x.0 (drop x.1 bytes) y))

-- pages up to some bytes, with so many cells
pub record ArePagesUpTo (column : Column) (bytes left : List ℕ) (count : ℕ) : Type 0 where
  pub pages : List FoundPage
  pub each : AllByRecursion (IsFoundPage column) pages
  pub parts : bytes ≡ flat_map (λ page. page.header ++ page.body) pages ++ left
  pub counted : count ≡ length (flat_map (λ page. page.held) pages)

-- the fault of the pages from a place on: that of the first bad page; or they end with another count of cells
pub record IsChunkFault (column : Column) (count : ℕ) (bytes : List ℕ) (offset : ℕ) (e : ParquetError) : Type 0 where
  pub at : ℕ
  pub read_count : ℕ
  pub before : ArePagesUpTo column (drop offset bytes) (drop at bytes) read_count
  pub here : ((at < length bytes) × IsPageFault column (count - read_count) bytes (header_at bytes at) e)
      ⊎ ((length bytes ≤ at) × (read_count ≢ count) × (e ≡ errors.BadParquet offset))

-- the fault of a column that stands at a place: that of its pages, or one of its cells may not stand there
abbrev pub IsColumnFault : List ℕ → ℕ → ℕ → Column → ChunkPlace → ParquetError → Type 0
IsColumnFault file count place column chunk e =
    IsChunkFault column count (take (chunk.offset + chunk.size) file) chunk.offset e
    ⊎ ((held : List Cell) × FillPages column count (chunk_bytes file chunk) held × (¬ (AllByRecursion (MayStand place) held)) × (e ≡ errors.BadParquet chunk.offset))

-- the fault of the first bad column, with a chunk for each
abbrev pub IsColumnsFault : List ℕ → ℕ → ℕ → List Column → List ChunkPlace → ParquetError → Type 0
IsColumnsFault file count place [] [] e = ⊥
IsColumnsFault file count place [] (chunk ∷ chunks) e = e ≡ errors.BadParquet 0
IsColumnsFault file count place (column ∷ columns) [] e = e ≡ errors.BadParquet 0
IsColumnsFault file count place (column ∷ columns) (chunk ∷ chunks) e =
    IsColumnFault file count place column chunk e
    ⊎ ((held : List Cell) × FillColumn column place count (chunk_bytes file chunk) held × IsColumnsFault file count (place + 1) columns chunks e)

-- the fault of the first bad row group
abbrev pub IsGroupsFault : List ℕ → List Column → List Group → ParquetError → Type 0
IsGroupsFault file columns [] e = ⊥
IsGroupsFault file columns (group ∷ groups) e =
    IsColumnsFault file group.row_count 0 columns group.chunks e ⊎ ((rows : List FullRow) × IsGroupOf file columns group rows × IsGroupsFault file columns groups e)

-- a place, whichever it is of
abbrev pub place_of : Result ℕ ℕ → ℕ
place_of (Ok at) = at
place_of (Err at) = at

-- the fault of a file: that of its footer; or its columns are those of no schema; or that of its row groups
abbrev pub IsFileFault : List ℕ → Result Layout ParquetError → ParquetError → Type 0
IsFileFault file (Err fault) e = e ≡ fault
IsFileFault file (Ok layout) e =
    (((schema : List Column) → ¬ (IsSchema schema × (layout.columns ≡ columns_of schema))) × (e ≡ errors.BadParquet (place_of (footer_place file))))
    ⊎ ((schema : List Column) × IsSchema schema × (layout.columns ≡ columns_of schema) × IsGroupsFault file layout.columns layout.groups e)
