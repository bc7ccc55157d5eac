pub mod Paging
pub mod Parts
pub mod KeptMore
