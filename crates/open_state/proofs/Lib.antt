mod OfClients
mod OneClient
mod Values
mod Finds
mod Came
mod Notes
mod Runs
