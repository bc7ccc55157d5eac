mod Ids
mod Lists
mod Places
mod Changes
mod Requesting
mod Tracking
mod Answering
mod Runs
