pub mod Resting
pub mod RestLaw
pub mod QuietRuns
pub mod CallCounts
pub mod RecallLaw
