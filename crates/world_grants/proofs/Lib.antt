pub mod OneEffect
pub mod RepliesBehind
pub mod LostSessions
pub mod EndedPeriods
pub mod FencedLayouts
pub mod SettledAsks
pub mod TwoGrants
