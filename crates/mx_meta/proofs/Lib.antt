pub mod CommitLemmas
pub mod JsonLemmas
pub mod FieldLemmas
pub mod PathListLemmas
pub mod NameLemmas
pub mod PlanLemmas
pub mod PlaceLemmas
pub mod ShardFileLemmas
