pub mod LineLemmas
pub mod OweLemmas
pub mod StepLemmas
pub mod RunLemmas
pub mod EndLemmas
pub mod LeadLemmas
