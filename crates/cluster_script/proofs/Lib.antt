pub mod ArgLemmas
pub mod NameLemmas
