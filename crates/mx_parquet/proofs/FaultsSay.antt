-- The fault that is told is the first one.
use Rattle.std.proofs.Common.{◌≡◌, ◌≢◌, ℕ, ◌+◌, ◌-◌, ◌^◌, ◌<◌, ◌≤◌, min, List, [], ◌∷◌, ◌++◌, length, take, drop, flat_map, Result, Ok, Err, refl, sym, ap, subst, ◌∙◌, append_assoc, append-nil, length-append, arith, inl, inr, OnErr}
use Rattle.std.specs.List.{AllByRecursion}
use Rattle.std.proofs.lemmas.Bool.{cases_lt}
use Rattle.std.proofs.lemmas.List.{take_all}
use Rattle.std.proofs.lemmas.List.Concat.{flat_map-append, flat_map-cons}
use Rattle.mx_schema.specs.declared.cell.Cell.{Cell}
use Rattle.mx_schema.specs.declared.column.Column.{Column}
use Rattle.mx_parquet.specs.declared.error.ParquetError.{ParquetError}
use Rattle.mx_parquet.specs.declared.error.ParquetError.TheVariants as errors
use Rattle.mx_parquet.specs.declared.layout.ChunkPlace.{ChunkPlace}
use Rattle.mx_parquet.specs.Decoding.{FoundPage, IsFoundPage}
use Rattle.mx_parquet.specs.Held.{chunk_bytes}
use Rattle.mx_parquet.specs.Chunks.{IsPageIn, FillPages}
use Rattle.mx_parquet.specs.Filling.{MayStand, FillColumn}
use Rattle.mx_parquet.specs.Faults.{TellsFault, IsPageFault, ArePagesUpTo, IsChunkFault, IsColumnFault, IsColumnsFault, header_at}

pub tells_more : (X Y : Type 0) (One More : ParquetError → Type 0) (e : ParquetError) → (One e → More e) → TellsFault {X = X} One (Err e) → TellsFault {X = Y} More (Err e)
tells_more X Y One More errors.NoMemory also is = tt
tells_more X Y One More (errors.BadParquet at) also is = also is
tells_more X Y One More (errors.Unsupported what) also is = also is

pub tells_as : {X : Type 0} (One More : ParquetError → Type 0) (r : Result X ParquetError) → ((e : ParquetError) → One e → More e) → TellsFault One r → TellsFault More r
tells_as One More (Ok x) also is = tt
tells_as One More (Err errors.NoMemory) also is = tt
tells_as One More (Err (errors.BadParquet at)) also is = also (errors.BadParquet at) is
tells_as One More (Err (errors.Unsupported what)) also is = also (errors.Unsupported what) is

-- ---- pages

all_more : {A : Type 0} (P : A → Type 0) (xs : List A) (x : A) → AllByRecursion P xs → P x → AllByRecursion P (xs ++ x ∷ [])
all_more P [] x all is = (is, tt)
all_more P (y ∷ ys) x all is = (all.0, all_more P ys x all.1 is)

abbrev page_bytes : FoundPage → List ℕ
page_bytes page = page.header ++ page.body

pub page_more : (column : Column) (most : ℕ) (bytes left rest : List ℕ) (count many : ℕ) (held : List Cell) → ArePagesUpTo column bytes left count → IsPageIn column most left (held, rest) → many ≡ count + length held
    → ArePagesUpTo column bytes rest many
page_more column most bytes left rest count many held are page grown = record {
  pages = are.pages ++ page.page ∷ [];
  each = all_more (IsFoundPage column) are.pages page.page are.each page.found;
  parts =
      are.parts ∙ ap (λ (b : List ℕ). flat_map page_bytes are.pages ++ b) page.parts ∙ sym (append_assoc (flat_map page_bytes are.pages) (page_bytes page.page) rest)
      ∙ ap (λ (b : List ℕ). b ++ rest) (sym whole);
  counted = grown ∙ ap (λ (n : ℕ). n + length held) are.counted ∙ ap (λ (n : ℕ). length (flat_map (λ (p : FoundPage). p.held) are.pages) + n) (ap length (sym page.all)) ∙ sym cells;
}
  where
    whole : flat_map page_bytes (are.pages ++ page.page ∷ []) ≡ flat_map page_bytes are.pages ++ page_bytes page.page
    whole =
        flat_map-append page_bytes are.pages (page.page ∷ [])
        ∙ ap (λ (b : List ℕ). flat_map page_bytes are.pages ++ b) (flat_map-cons page_bytes page.page [] ∙ append-nil (page_bytes page.page))

    cells : length (flat_map (λ (p : FoundPage). p.held) (are.pages ++ page.page ∷ [])) ≡ length (flat_map (λ (p : FoundPage). p.held) are.pages) + length page.page.held
    cells =
        ap length (flat_map-append (λ (p : FoundPage). p.held) are.pages (page.page ∷ []))
        ∙ length-append (flat_map (λ (p : FoundPage). p.held) are.pages) (flat_map (λ (p : FoundPage). p.held) (page.page ∷ []))
        ∙ ap (λ (n : ℕ). length (flat_map (λ (p : FoundPage). p.held) are.pages) + n) (ap length (flat_map-cons (λ (p : FoundPage). p.held) page.page [] ∙ append-nil page.page.held))

pub page_fault : (X Y : Type 0) (column : Column) (count : ℕ) (bytes : List ℕ) (offset at read_count : ℕ) (e : ParquetError) → ArePagesUpTo column (drop offset bytes) (drop at bytes) read_count → at < length bytes
    → TellsFault {X = X} (IsPageFault column (count - read_count) bytes (header_at bytes at)) (Err e) → TellsFault {X = Y} (IsChunkFault column count bytes offset) (Err e)
page_fault X Y column count bytes offset at read_count e before within is =
    tells_more X Y (IsPageFault column (count - read_count) bytes (header_at bytes at)) (IsChunkFault column count bytes offset) e (λ fault. record { at = at; read_count = read_count; before = before; here = inl (within, fault) }) is

pub count_fault : (column : Column) (count : ℕ) (bytes : List ℕ) (offset at read_count : ℕ) → ArePagesUpTo column (drop offset bytes) (drop at bytes) read_count → length bytes ≤ at → read_count ≢ count
    → IsChunkFault column count bytes offset (errors.BadParquet offset)
count_fault column count bytes offset at read_count before end other = record { at = at; read_count = read_count; before = before; here = inr (end, other, refl) }

-- ---- columns

pub front_is : (file : List ℕ) (chunk : ChunkPlace) (end : ℕ) (front : List ℕ) → length file < 2 ^ 32 → end ≡ min (min (chunk.offset + chunk.size) (2 ^ 64 - 1)) (length file) → front ≡ take end file
    → front ≡ take (chunk.offset + chunk.size) file
front_is file chunk end front small end_is is =
    elim (cases_lt (chunk.offset + chunk.size) (length file)) [
      | inl lt ↦ let at : end ≡ chunk.offset + chunk.size = omega (arith, end_is, small, lt) in is ∙ ap (λ (n : ℕ). take n file) at
      | inr ge ↦ is ∙ take_all end file (omega (arith, end_is, small, ge)) ∙ sym (take_all (chunk.offset + chunk.size) file ge)
    ]

pub pages_fault : (X Y : Type 0) (file : List ℕ) (count place : ℕ) (column : Column) (chunk : ChunkPlace) (front : List ℕ) (e : ParquetError) → front ≡ take (chunk.offset + chunk.size) file
    → TellsFault {X = X} (IsChunkFault column count front chunk.offset) (Err e) → TellsFault {X = Y} (IsColumnFault file count place column chunk) (Err e)
pages_fault X Y file count place column chunk front e is told =
    tells_more X Y (IsChunkFault column count front chunk.offset) (IsColumnFault file count place column chunk) e
    (λ fault. inl (subst (λ (b : List ℕ). IsChunkFault column count b chunk.offset e) is fault)) told

pub cell_fault : (file : List ℕ) (count place : ℕ) (column : Column) (chunk : ChunkPlace) (here : List ℕ) (held seen : List Cell) → here ≡ chunk_bytes file chunk → FillPages column count here held → seen ≡ held
    → (AllByRecursion (MayStand place) seen → ⊥) → IsColumnFault file count place column chunk (errors.BadParquet chunk.offset)
cell_fault file count place column chunk here held seen is fills same none =
    inr (held, subst (λ (b : List ℕ). FillPages column count b held) is fills, (λ may. none (subst (AllByRecursion (MayStand place)) (sym same) may)), refl)

columns_by : (file : List ℕ) (many place : ℕ) (column : Column) (columns all : List Column) (chunk : ChunkPlace) (chunks places : List ChunkPlace) (e : ParquetError) → all ≡ column ∷ columns → places ≡ chunk ∷ chunks
    → IsColumnsFault file many place (column ∷ columns) (chunk ∷ chunks) e → IsColumnsFault file many place all places e
columns_by file many place column columns all chunk chunks places e is are fault =
    subst (λ (ps : List ChunkPlace). IsColumnsFault file many place all ps e) (sym are) (subst (λ (cs : List Column). IsColumnsFault file many place cs (chunk ∷ chunks) e) (sym is) fault)

pub column_fault : (X Y : Type 0) (file : List ℕ) (count many place : ℕ) (column : Column) (columns all : List Column) (chunk : ChunkPlace) (chunks places : List ChunkPlace) (e : ParquetError) → count ≡ many
    → all ≡ column ∷ columns → places ≡ chunk ∷ chunks → TellsFault {X = X} (IsColumnFault file count place column chunk) (Err e) → TellsFault {X = Y} (IsColumnsFault file many place all places) (Err e)
column_fault X Y file count many place column columns all chunk chunks places e same is are told =
    tells_more X Y (IsColumnFault file count place column chunk) (IsColumnsFault file many place all places) e
    (λ fault. columns_by file many place column columns all chunk chunks places e is are (inl (subst (λ (n : ℕ). IsColumnFault file n place column chunk e) same fault))) told

pub others_fault : {X : Type 0} (file : List ℕ) (count many mid place : ℕ) (column : Column) (columns all : List Column) (chunk : ChunkPlace) (chunks places : List ChunkPlace) (held : List Cell) (r : Result X ParquetError) → count ≡ many
    → mid ≡ many → all ≡ column ∷ columns → places ≡ chunk ∷ chunks → FillColumn column place count (chunk_bytes file chunk) held → TellsFault (IsColumnsFault file mid (place + 1) columns chunks) r
    → TellsFault (IsColumnsFault file many place all places) r
others_fault file count many mid place column columns all chunk chunks places held r same same_mid is are fills told =
    tells_as (IsColumnsFault file mid (place + 1) columns chunks) (IsColumnsFault file many place all places) r (
    λ e fault.
    columns_by file many place column columns all chunk chunks places e is are (
    inr (
      held,
      subst (λ (n : ℕ). FillColumn column place n (chunk_bytes file chunk) held) same fills,
      subst (λ (n : ℕ). IsColumnsFault file n (place + 1) columns chunks e) same_mid fault,
    )
    )
    )
    told

pub chunk_without_column : {X : Type 0} (file : List ℕ) (many place : ℕ) (columns : List Column) (chunks : List ChunkPlace) (r : Result X ParquetError) → length columns ≡ 0
    → OnErr r (chunks ≢ []) → TellsFault (λ e. e ≡ errors.BadParquet 0) r → TellsFault (IsColumnsFault file many place columns chunks) r
chunk_without_column file many place columns chunks (Ok x) none some told = tt
chunk_without_column file many place (column ∷ columns) chunks (Err e) none some told = absurd (omega (arith, none))
chunk_without_column file many place [] [] (Err e) none some told = absurd (some refl)
chunk_without_column {X} file many place [] (chunk ∷ chunks) (Err e) none some told = tells_more X X (λ e. e ≡ errors.BadParquet 0) (IsColumnsFault file many place [] (chunk ∷ chunks)) e (λ is. is) told

pub column_without_chunk : (file : List ℕ) (many place : ℕ) (column : Column) (columns all : List Column) (chunks : List ChunkPlace) → all ≡ column ∷ columns → length chunks ≡ 0
    → IsColumnsFault file many place all chunks (errors.BadParquet 0)
column_without_chunk file many place column columns all [] is none = subst (λ (cs : List Column). IsColumnsFault file many place cs [] (errors.BadParquet 0)) (sym is) refl
column_without_chunk file many place column columns all (chunk ∷ chunks) is none = absurd (omega (arith, none))
