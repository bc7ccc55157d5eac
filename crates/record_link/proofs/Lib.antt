pub mod OutgoingLemmas
pub mod ConnectionLemmas
pub mod PieceLemmas
