pub mod ConfigLemmas
pub mod ServeLemmas
pub mod OneConfig
