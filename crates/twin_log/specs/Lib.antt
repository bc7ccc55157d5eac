pub mod Twins
pub mod PlainHolders
pub mod Causes
pub mod KeptLogs
pub mod LogCalls
pub mod Opening
pub mod GateLogs
pub mod LogErrors
