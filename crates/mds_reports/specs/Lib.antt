pub mod SlotReports
