pub mod QueueLemmas
pub mod HeadWaits
pub mod Names
