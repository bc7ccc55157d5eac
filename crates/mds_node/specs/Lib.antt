pub mod MdsNodes
