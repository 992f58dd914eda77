pub mod NamesLemmas
pub mod LeastLemmas
pub mod StageLemmas
pub mod TimelineLemmas
