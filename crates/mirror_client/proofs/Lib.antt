mod NamedTimeouts
pub mod ClientLemmas
pub mod StepLemmas
