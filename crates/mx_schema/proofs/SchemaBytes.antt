-- The bytes that the text of a schema has.
use Rattle.std.proofs.Common.{◌≡◌, ℕ, ◌<◌, Bool, true, false, List, [], ◌∷◌, ◌++◌, map, refl, ap, ◌∙◌, arith}
use Rattle.std.specs.Prelude.{◌==◌, ◌&&◌, ◌||◌}
use Rattle.std.specs.List.{list_all, join_with_byte}
use Rattle.std.proofs.lemmas.List.Folds.{list_all-append}
use Rattle.mx_schema.specs.declared.column.Column.{Column}
use Rattle.mx_schema.specs.declared.column.ColumnKind.{ColumnKind}
use Rattle.mx_schema.specs.declared.column.ColumnKind.TheVariants as kinds
use Rattle.mx_schema.specs.Columns.{kind_name, mark, column_text, schema_text, is_column_byte, is_column_name, IsColumn, IsSchema}
use Rattle.mx_schema.proofs.ColumnLemmas.{and_both, and_first, and_second, list_all-weaker, name_bytes}

-- a byte of a name, a comma, a colon or a question mark
abbrev pub is_schema_byte : ℕ → Bool
is_schema_byte byte = is_column_byte byte || (byte == 44 || (byte == 58 || byte == 63))

or_left : (b c : Bool) → b ≡ true → (b || c) ≡ true
or_left b c h = ap (λ (v : Bool). v || c) h

kind_bytes : (kind : ColumnKind) (nullable : Bool) → list_all is_schema_byte (58 ∷ (kind_name kind ++ mark nullable)) ≡ true
kind_bytes kinds.Boolean true = refl
kind_bytes kinds.Boolean false = refl
kind_bytes kinds.Int32 true = refl
kind_bytes kinds.Int32 false = refl
kind_bytes kinds.Int64 true = refl
kind_bytes kinds.Int64 false = refl
kind_bytes kinds.Text true = refl
kind_bytes kinds.Text false = refl

column_bytes : (column : Column) → IsColumn column → list_all is_schema_byte (column_text column) ≡ true
column_bytes column is =
    list_all-append is_schema_byte column.name (58 ∷ (kind_name column.kind ++ mark column.nullable))
    ∙ and_both _ _ (list_all-weaker is_column_byte is_schema_byte (λ x h. or_left (is_column_byte x) (x == 44 || (x == 58 || x == 63)) h) column.name (name_bytes column.name is)) (kind_bytes column.kind column.nullable)

columns_bytes : (columns : List Column) → list_all (λ column. is_column_name column.name) columns ≡ true → list_all is_schema_byte (schema_text columns) ≡ true
columns_bytes [] p = refl
columns_bytes (first ∷ []) p = column_bytes first (and_first (is_column_name first.name) true p)
columns_bytes (first ∷ second ∷ others) p =
    list_all-append is_schema_byte (column_text first) (44 ∷ schema_text (second ∷ others))
    ∙ and_both _ _ (column_bytes first (and_first (is_column_name first.name) (list_all (λ c. is_column_name c.name) (second ∷ others)) p)) (columns_bytes (second ∷ others) (and_second (is_column_name first.name) (list_all (λ c. is_column_name c.name) (second ∷ others)) p))

pub schema_bytes : (schema : List Column) → IsSchema schema → list_all is_schema_byte (schema_text schema) ≡ true
schema_bytes schema is = columns_bytes schema is.columns.each
