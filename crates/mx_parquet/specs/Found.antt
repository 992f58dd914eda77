-- Which schema columns are those of.
use Rattle.std.specs.Prelude.{◌≡◌, List, Result, Ok, Err}
use Rattle.mx_schema.specs.declared.column.Column.{Column}
use Rattle.mx_schema.specs.Columns.{IsSchema}
use Rattle.mx_parquet.specs.declared.error.Flaw.TheVariants as flaws
use Rattle.mx_parquet.specs.declared.error.Failure.{Failure}
use Rattle.mx_parquet.specs.declared.error.Failure.TheVariants as failures
use Rattle.mx_parquet.specs.Columns.{columns_of}

-- the answer is the schema that meets a condition; a flaw says that none does
abbrev pub Finds : (List Column → Type 0) → Result (List Column) Failure → Type 0
Finds Meets (Ok schema) = IsSchema schema × Meets schema
Finds Meets (Err failures.NoMemory) = Unit {0}
Finds Meets (Err (failures.Flawed flaws.Bad)) = (schema : List Column) → IsSchema schema → ¬ (Meets schema)
Finds Meets (Err (failures.Flawed (flaws.Unsupported what))) = ⊥

-- the schema of these columns
abbrev pub FindsColumns : List Column → Result (List Column) Failure → Type 0
FindsColumns columns = Finds (λ schema. columns ≡ schema)

-- the schema whose columns, behind those of Hudi, these are
abbrev pub FindsSchema : List Column → Result (List Column) Failure → Type 0
FindsSchema columns = Finds (λ schema. columns ≡ columns_of schema)
