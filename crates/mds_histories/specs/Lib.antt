pub mod MdsHistory
