mod Search
mod Steps
mod History
