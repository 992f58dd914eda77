pub mod Plain
pub mod TreeLemmas
pub mod Codecs
