pub mod Numbered
pub mod TableSteps
pub mod TableFacts
pub mod NewSessions
pub mod TableWalk
pub mod GoneClients
pub mod GoneRequests
