pub mod Codecs
pub mod Loop
pub mod Parts
pub mod Payloads
pub mod Stats
pub mod Texts
pub mod Unions
pub mod WordLists
