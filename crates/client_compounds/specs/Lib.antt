pub mod MdsArguments
pub mod MdsLists
pub mod MdsResults
