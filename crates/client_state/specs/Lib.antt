pub mod ClientStates
pub mod ClientQueue
pub mod ClientSends
pub mod QueueSteps
pub mod QueueLaws
