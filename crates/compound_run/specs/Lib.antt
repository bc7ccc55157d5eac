pub mod CompoundRuns
