-- The rows of a data file, one behind the other.
use Rattle.std.proofs.Common.{◌≡◌, ℕ, ◌+◌, List, [], ◌∷◌, ◌++◌, length, take, get_or, ◌<◌, sym, ◌∙◌, ap, ap₂, arith, suc}
use Rattle.std.proofs.lemmas.List.{length-take-le, take_more}
use Rattle.std.specs.Prelude.{unwrap_or}
use Rattle.std.specs.List.{AllByRecursion, AllZip}
use Rattle.mx_parquet.specs.Fits.{FitsRow}
use Rattle.mx_parquet.specs.declared.row.FullRow.{FullRow}
use Rattle.mx_schema.specs.Rows.{asked, FitsAll, IsCellOf, IsKeyText}
use Rattle.mx_schema.specs.declared.column.Column.{Column}
use Rattle.mx_schema.specs.declared.row.RowValue.TheVariants as values
use Rattle.mx_rows.specs.Checks.{Row, RowsFit, key_of}
use Rattle.mx_rows.specs.Filled.{Where, behind_key, full_row, full_rows, full_rows_from}
use Rattle.mx_rows.proofs.CellLemmas.{zip_fits, cells_fit}

pub behind_fits : (columns : List Column) (row : Row) → FitsAll (asked columns) row → AllZip IsCellOf columns (behind_key row)
behind_fits columns [] fits = absurd (fits 0)
behind_fits columns (key ∷ elements) fits = zip_fits columns elements (λ place. fits (suc place))

key_fits : (columns : List Column) (row : Row) → FitsAll (asked columns) row → IsKeyText (unwrap_or (key_of row) [])
key_fits columns [] fits = absurd (fits 0)
key_fits columns (values.Null ∷ elements) fits = absurd (fits 0)
key_fits columns (values.Flag flag ∷ elements) fits = absurd (fits 0)
key_fits columns (values.Whole number ∷ elements) fits = absurd (fits 0)
key_fits columns (values.Text text ∷ elements) fits = fits 0

row_fits : (columns : List Column) (place : Where) (number : ℕ) (row : Row) → FitsAll (asked columns) row → FitsRow columns (full_row columns place number row)
row_fits columns place number row fits = record {
  key = key_fits columns row fits;
  cells = cells_fit columns (behind_key row) (behind_fits columns row fits);
}

pub rows_fit : (columns : List Column) (place : Where) (number : ℕ) (rows : List Row) → RowsFit columns rows → AllByRecursion (FitsRow columns) (full_rows_from columns place number rows)
rows_fit columns place number [] fit = tt
rows_fit columns place number (row ∷ rows) fit = (row_fits columns place number row fit.0, rows_fit columns place (number + 1) rows fit.1)

rows_push : (columns : List Column) (place : Where) (number : ℕ) (rows : List Row) (row : Row) → full_rows_from columns place number (rows ++ row ∷ []) ≡ full_rows_from columns place number rows ++ full_row columns place (number + length rows) row ∷ []
rows_push columns place number [] row = ap (λ (n : ℕ). full_row columns place n row ∷ []) (omega arith)
rows_push columns place number (first ∷ rows) row =
    ap (λ (more : List FullRow). full_row columns place number first ∷ more) (rows_push columns place (number + 1) rows row
    ∙ ap (λ (n : ℕ). full_rows_from columns place (number + 1) rows ++ full_row columns place n row ∷ []) (omega arith))

pub rows_more : (columns : List Column) (place : Where) (rows : List Row) (i : ℕ) (row : Row) (full after : List FullRow) (last : FullRow) → i < length rows → row ≡ get_or rows i row
    → full ≡ full_rows columns place (take i rows) → last ≡ full_row columns place i row → after ≡ full ++ last ∷ [] → after ≡ full_rows columns place (take (i + 1) rows)
rows_more columns place rows i row full after last within is so_far filled grown =
    let taken : length (take i rows) ≡ i = length-take-le i rows (omega (arith, within)) in
    let long : 0 + length (take i rows) ≡ i = omega (arith, taken) in
    let on : take (i + 1) rows ≡ take i rows ++ row ∷ [] = take_more rows i row within ∙ ap (λ (r : Row). take i rows ++ r ∷ []) (sym is) in
    grown ∙ ap₂ (λ (front : List FullRow) (back : FullRow). front ++ back ∷ []) so_far (filled ∙ ap (λ (n : ℕ). full_row columns place n row) (sym long))
    ∙ sym (rows_push columns place 0 (take i rows) row)
    ∙ sym (ap (full_rows columns place) on)
