pub mod Texts
pub mod PartLemmas
pub mod LineLemmas
pub mod ConfigLemmas
