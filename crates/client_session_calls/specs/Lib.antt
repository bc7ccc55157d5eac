pub mod SessionOps
pub mod SessionResults
