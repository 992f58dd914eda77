pub mod ReadLemmas
pub mod LookLemmas
pub mod KeptLemmas
