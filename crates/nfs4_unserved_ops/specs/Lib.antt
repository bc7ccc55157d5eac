pub mod Access
pub mod OpenDowngrade
pub mod ReadDir
pub mod SetAttr
pub mod SecInfoNoName
pub mod Args
pub mod Results
