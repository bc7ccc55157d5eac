pub mod FileOps
pub mod FileResults
pub mod LayoutGrants
pub mod MdsDevices
