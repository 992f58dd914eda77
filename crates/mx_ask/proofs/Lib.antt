pub mod Floats
pub mod ItemLemmas
pub mod RowLemmas
pub mod AskLemmas
pub mod ObjectLemmas
