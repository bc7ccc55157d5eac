pub mod OverAnswers
pub mod LateLemmas
