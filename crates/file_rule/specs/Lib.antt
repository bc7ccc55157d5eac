pub mod MdsFiles
pub mod FilePhases
pub mod WorkedFiles
