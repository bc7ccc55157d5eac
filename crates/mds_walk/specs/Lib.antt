pub mod MdsRuns
pub mod FirstRequests
pub mod CallTables
