pub mod FrontRead
pub mod SlotSteps
pub mod KeptReplies
pub mod StandingSessions
pub mod ReportTurns
pub mod ReportRuns
