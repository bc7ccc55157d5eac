pub mod WalkLemmas
mod BeginLemmas
mod SequenceLemmas
