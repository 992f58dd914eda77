-- The names of a file's columns are texts.
use Rattle.std.proofs.Common.{◌≡◌, ℕ, zero, suc, ◌<◌, true, List, [], ◌∷◌, get_or, refl, arith}
use Rattle.std.specs.List.{list_all, AllByRecursion}
use Rattle.std.specs.Str.{IsUtf8}
use Rattle.std.proofs.lemmas.Bool.Decides.{nat_tests}
use Rattle.std.proofs.lemmas.Str.{IsUtf8-from_ascii}
use Rattle.mx_schema.specs.declared.column.Column.{Column}
use Rattle.mx_schema.specs.Columns.{is_column_byte, is_column_name, IsSchema}
use Rattle.mx_schema.proofs.ColumnLemmas.{and_first, and_second, name_bytes}
use Rattle.mx_parquet.specs.Columns.{hudi_names, columns_of}

byte_small : (b : ℕ) → is_column_byte b ≡ true → b < 128
byte_small b e = grind (arith, nat_tests)

bytes_small : (name : List ℕ) → list_all is_column_byte name ≡ true → (i : ℕ) → get_or name i 0 < 128
bytes_small [] e i = omega arith
bytes_small (b ∷ bs) e zero = byte_small b (and_first (is_column_byte b) (list_all is_column_byte bs) e)
bytes_small (b ∷ bs) e (suc i) = bytes_small bs (and_second (is_column_byte b) (list_all is_column_byte bs) e) i

text_name : (name : List ℕ) → list_all is_column_byte name ≡ true → IsUtf8 name
text_name name e = IsUtf8-from_ascii name (bytes_small name e)

schema_names : (columns : List Column) → list_all (λ column. is_column_name column.name) columns ≡ true → AllByRecursion (λ column. IsUtf8 column.name) columns
schema_names [] e = tt
schema_names (c ∷ cs) e = (
  text_name c.name (name_bytes c.name (and_first (is_column_name c.name) (list_all (λ column. is_column_name column.name) cs) e)),
  schema_names cs (and_second (is_column_name c.name) (list_all (λ column. is_column_name column.name) cs) e),
)

pub names_are_texts : (schema : List Column) → IsSchema schema → AllByRecursion (λ column. IsUtf8 column.name) (columns_of schema)
unfolding hudi_names
names_are_texts schema is =
    (text_name _ refl, (text_name _ refl, (text_name _ refl, (text_name _ refl, (text_name _ refl, schema_names schema is.columns.each)))))
