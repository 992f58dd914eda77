pub mod SizeLemmas
pub mod RunLemmas
pub mod ValueLemmas
pub mod MetLemmas
pub mod EntryLemmas
pub mod MergeLemmas
