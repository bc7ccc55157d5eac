pub mod ClientHistory
pub mod ClientRunLaws
pub mod RecallLaws
