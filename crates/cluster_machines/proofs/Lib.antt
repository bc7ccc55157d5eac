mod Numbered
mod Acting
mod Leaving
mod Auditing
