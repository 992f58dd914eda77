pub mod AddedLemmas
pub mod EntryLemmas
pub mod MakingLemmas
pub mod GroupingLemmas
pub mod PlanLemmas
pub mod ListingLemmas
pub mod WrittenLemmas
