pub mod DoesLemmas
