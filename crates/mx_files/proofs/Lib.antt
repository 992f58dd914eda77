pub mod MapLemmas
pub mod WordLemmas
pub mod PartitionLemmas
pub mod DeltaLemmas
pub mod RuleLemmas
pub mod SaidLemmas
pub mod EntryLemmas
