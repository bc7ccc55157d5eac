mod CountLemmas
mod NewsLemmas
pub mod NodeLemmas
mod TakeOutLemmas
mod TurnLemmas
