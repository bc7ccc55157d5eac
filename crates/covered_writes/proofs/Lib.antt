mod Places
mod MarkSteps
mod ServerSteps
mod Standing
mod Arrivals
mod Moves
