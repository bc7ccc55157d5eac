pub mod Marks
pub mod Views
pub mod Sound
pub mod SoundRuns
