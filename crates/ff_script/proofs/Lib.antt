pub mod PieceLemmas
pub mod Spelling
pub mod Pairs
