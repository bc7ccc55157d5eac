pub mod MdsSteps
pub mod LateCalls
