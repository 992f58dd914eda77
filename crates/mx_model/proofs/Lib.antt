pub mod MapLemmas
pub mod TreeLemmas
