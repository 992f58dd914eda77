pub mod AskLemmas
pub mod Histories
