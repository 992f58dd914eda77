pub mod RunLemmas
pub mod PushLemmas
pub mod DecodingLemmas
pub mod WrittenLemmas
