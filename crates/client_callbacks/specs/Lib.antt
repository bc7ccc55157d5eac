pub mod Callbacks
pub mod CallbackSteps
