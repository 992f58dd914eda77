-- What is known of the rows of one file.
use Rattle.std.specs.Prelude.{◌≡◌, ℕ, List, [], ◌++◌, Contains, Some, slice_get, take, bytes_eq}
use Rattle.std.specs.BTreeSet.{BTreeSet, contains}
use Rattle.std.specs.Cmp.Lexicographic.{slice_cmp}
use Rattle.std.specs.List.{list_any, cons_option}
use Rattle.std.specs.Ordering.{nat_cmp}
use Rattle.mx_schema.specs.Rows.{asked, IsFirstBad}
use Rattle.mx_schema.specs.declared.column.Column.{Column}
use Rattle.mx_rows.specs.Checks.{Row, RowsFit, key_of}

-- the first bad place of the rows: the row, and its element
pub record IsFirstBadIn (columns : List Column) (rows : List Row) (bad : ℕ × ℕ) : Type 0 where
  pub row : Row
  pub is_row : slice_get rows bad.0 ≡ Some row
  pub place : IsFirstBad (asked columns) row bad.1
  pub rows_before : RowsFit columns (take bad.0 rows)

-- the set has these keys and no other
abbrev pub HasKeys : BTreeSet (List ℕ) → List (List ℕ) → Type 0
HasKeys met keys = (q : List ℕ) → contains (slice_cmp nat_cmp) met q ≡ list_any (λ key. bytes_eq key q) keys

-- the row's key is none of these, and the set has it too
pub record IsMet (met : BTreeSet (List ℕ)) (keys : List (List ℕ)) (row : Row) : Type 0 where
  pub fresh : (key : List ℕ) → key_of row ≡ Some key → ¬ (Contains keys key)
  pub added : HasKeys met (keys ++ cons_option (key_of row) [])

-- the row's key is one of these
pub record IsDouble (keys : List (List ℕ)) (row : Row) (key : List ℕ) : Type 0 where
  pub of_row : key_of row ≡ Some key
  pub earlier : Contains keys key
