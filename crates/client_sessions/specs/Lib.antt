pub mod HeardReplies
pub mod ClientSessions
pub mod SessionRounds
pub mod LayoutEnds
pub mod FittingCalls
pub mod EnteredFiles
