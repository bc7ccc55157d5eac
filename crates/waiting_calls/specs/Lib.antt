pub mod LinkCalls
pub mod LinkLaws
pub mod LinkMoves
pub mod ServerNews
