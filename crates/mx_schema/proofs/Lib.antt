pub mod ColumnLemmas
pub mod SchemaBytes
