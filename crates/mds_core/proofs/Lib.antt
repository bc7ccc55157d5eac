pub mod CompoundsWithin
pub mod FilesTick
pub mod LeaseLemmas
pub mod RecallLemmas
pub mod NextAwaited
pub mod Forgotten
