pub mod ClientRecords
