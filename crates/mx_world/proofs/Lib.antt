pub mod CountLemmas
pub mod MirrorLemmas
pub mod ListedLemmas
pub mod StateLemmas
pub mod DrawnLemmas
pub mod TurnLemmas
