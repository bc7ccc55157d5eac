pub mod Standing
pub mod RecallCalls
