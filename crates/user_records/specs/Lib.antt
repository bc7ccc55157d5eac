pub mod UserRecords
