-- The cells of a row that fits.
use Rattle.std.proofs.Common.{◌≡◌, ℕ, suc, ◌<◌, ◌+◌, List, [], ◌∷◌, ◌++◌, length, take, get_or, map, refl, sym, ◌∙◌, ap, ap₂, arith, subst, zero, ℤ}
use Rattle.std.proofs.lemmas.List.{length-take-le, take_more}
use Rattle.mx_schema.specs.declared.cell.Cell.{Cell}
use Rattle.std.specs.List.{AllZip}
use Rattle.mx_parquet.specs.Fits as parquet
use Rattle.mx_schema.specs.Rows.{CellOf, FitsAll, HasNumber, IsCellOf}
use Rattle.mx_schema.specs.declared.column.Column.{Column}
use Rattle.mx_schema.specs.declared.column.ColumnKind.{ColumnKind}
use Rattle.mx_schema.specs.declared.column.ColumnKind.TheVariants as kinds
use Rattle.mx_schema.specs.declared.row.RowValue.{RowValue}
use Rattle.mx_schema.specs.declared.row.RowValue.TheVariants as values
use Rattle.mx_rows.specs.Filled.{cells_of, number_of}

pub zip_fits : (columns : List Column) (elements : List RowValue) → FitsAll (map CellOf columns) elements → AllZip IsCellOf columns elements
zip_fits [] [] fits = tt
zip_fits [] (value ∷ elements) fits = absurd (fits 0)
zip_fits (column ∷ columns) [] fits = absurd (fits 0)
zip_fits (column ∷ columns) (value ∷ elements) fits = (fits 0, zip_fits columns elements (λ place. fits (suc place)))

number_fits : (column : Column) (kind : ColumnKind) (number : ℤ) → column.kind ≡ kind → HasNumber kind number → parquet.IsCellOf column (number_of kind (values.Whole number))
number_fits column kinds.Boolean number is has = absurd has
number_fits column kinds.Int32 number is has = is
number_fits column kinds.Int64 number is has = is
number_fits column kinds.Text number is has = absurd has

cell_fits : (column : Column) (value : RowValue) → IsCellOf column value → parquet.IsCellOf column (number_of column.kind value)
cell_fits column values.Null fits = fits
cell_fits column (values.Flag flag) fits = fits
cell_fits column (values.Whole number) fits = number_fits column column.kind number refl fits
cell_fits column (values.Text text) fits = fits

pub cells_fit : (columns : List Column) (elements : List RowValue) → AllZip IsCellOf columns elements → AllZip parquet.IsCellOf columns (cells_of columns elements)
cells_fit [] [] fits = tt
cells_fit [] (value ∷ elements) fits = absurd fits
cells_fit (column ∷ columns) [] fits = absurd fits
cells_fit (column ∷ columns) (value ∷ elements) fits = (cell_fits column value fits.0, cells_fit columns elements fits.1)

cells_push : (columns : List Column) (elements : List RowValue) (column : Column) (value : RowValue) → length columns ≡ length elements → cells_of (columns ++ column ∷ []) (elements ++ value ∷ []) ≡ cells_of columns elements ++ number_of column.kind value ∷ []
cells_push [] [] column value same = refl
cells_push [] (first ∷ elements) column value same = absurd (omega (arith, same))
cells_push (first ∷ columns) [] column value same = absurd (omega (arith, same))
cells_push (first ∷ columns) (element ∷ elements) column value same = ap (λ cells. number_of first.kind element ∷ cells) (cells_push columns elements column value (omega (arith, same)))

pub length_cells : (columns : List Column) (elements : List RowValue) → AllZip IsCellOf columns elements → length columns ≡ length elements
length_cells [] [] fits = refl
length_cells [] (value ∷ elements) fits = absurd fits
length_cells (column ∷ columns) [] fits = absurd fits
length_cells (column ∷ columns) (value ∷ elements) fits = ap suc (length_cells columns elements fits.1)

zip_in : (columns : List Column) (elements : List RowValue) (i : ℕ) (column : Column) (value : RowValue) → i < length columns → AllZip IsCellOf columns elements → IsCellOf (get_or columns i column) (get_or elements i value)
zip_in [] [] i column value within fits = absurd (omega (arith, within))
zip_in [] (first ∷ elements) i column value within fits = absurd fits
zip_in (first ∷ columns) [] i column value within fits = absurd fits
zip_in (first ∷ columns) (element ∷ elements) zero column value within fits = fits.0
zip_in (first ∷ columns) (element ∷ elements) (suc i) column value within fits = zip_in columns elements i column value (omega (arith, within)) fits.1

pub zip_at : (columns : List Column) (elements : List RowValue) (i : ℕ) (column : Column) (value : RowValue) → i < length columns → column ≡ get_or columns i column → value ≡ get_or elements i value → AllZip IsCellOf columns elements → IsCellOf column value
zip_at columns elements i column value within is_column is_value fits =
    subst (λ (c : Column). IsCellOf c value) (sym is_column)
    (subst (IsCellOf (get_or columns i column)) (sym is_value) (zip_in columns elements i column value within fits))

pub cells_more : (columns : List Column) (elements : List RowValue) (i : ℕ) (column : Column) (value : RowValue) (cells after : List Cell) (cell : Cell) → i < length columns → length columns ≡ length elements → column ≡ get_or columns i column → value ≡ get_or elements i value
    → cells ≡ cells_of (take i columns) (take i elements) → cell ≡ number_of column.kind value → after ≡ cells ++ cell ∷ [] → after ≡ cells_of (take (i + 1) columns) (take (i + 1) elements)
cells_more columns elements i column value cells after cell within same is_column is_value so_far is grown =
    let fewer : i < length elements = omega (arith, within, same) in
    let level : length (take i columns) ≡ length (take i elements) = length-take-le i columns (omega (arith, within)) ∙ sym (length-take-le i elements (omega (arith, fewer))) in
    let columns_on : take (i + 1) columns ≡ take i columns ++ column ∷ [] = take_more columns i column within ∙ ap (λ (c : Column). take i columns ++ c ∷ []) (sym is_column) in
    let elements_on : take (i + 1) elements ≡ take i elements ++ value ∷ [] = take_more elements i value fewer ∙ ap (λ (v : RowValue). take i elements ++ v ∷ []) (sym is_value) in
    grown ∙ ap₂ (λ (front : List Cell) (last : Cell). front ++ last ∷ []) so_far is
    ∙ sym (cells_push (take i columns) (take i elements) column value level)
    ∙ sym (ap₂ cells_of columns_on elements_on)
