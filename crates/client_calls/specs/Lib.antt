pub mod ClientCalls
pub mod ClientLaws
pub mod CallSteps
