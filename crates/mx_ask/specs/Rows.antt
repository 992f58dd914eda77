-- Rows as JSON.
use Rattle.std.specs.Prelude.{ℤ, pos, negsuc, List, map, All}
use Rattle.std.specs.Int.{w64}
use Rattle.std.specs.Int.RustNames.{FitsSigned}
use Rattle.serde_json.specs.Data.{Data, null, boolean, number, string, array, unsigned, negative}
use Rattle.serde_json.specs.View.{items_of}
use Rattle.mx_schema.specs.declared.row.RowValue.{RowValue}
use Rattle.mx_schema.specs.declared.row.RowValue.TheVariants as values

-- an integer
abbrev pub whole_data : ℤ → Data
whole_data (pos n) = number (unsigned n)
whole_data (negsuc n) = number (negative (negsuc n))

-- an element of a row: null, a truth value, an integer or a text
abbrev pub value_data : RowValue → Data
value_data values.Null = null
value_data (values.Flag flag) = boolean flag
value_data (values.Whole n) = whole_data n
value_data (values.Text text) = string text

-- a row is an array of its elements
abbrev pub row_data : List RowValue → Data
row_data row = array (items_of (map value_data row))

-- rows are an array of arrays
abbrev pub rows_data : List (List RowValue) → Data
rows_data rows = array (items_of (map row_data rows))

-- an integer has 64 bits
abbrev pub IsRowValue : RowValue → Type 0
IsRowValue values.Null = Unit {0}
IsRowValue (values.Flag flag) = Unit {0}
IsRowValue (values.Whole n) = FitsSigned w64 n
IsRowValue (values.Text text) = Unit {0}

-- so has each of a row
abbrev pub IsRow : List RowValue → Type 0
IsRow row = All IsRowValue row
