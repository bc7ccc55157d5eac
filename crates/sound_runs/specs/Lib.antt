pub mod BoundJournals
