pub mod EarlyLemmas
pub mod ChangeLemmas
pub mod CommitLemmas
pub mod EntryLemmas
pub mod EndLemmas
