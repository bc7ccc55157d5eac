mod Procedures
mod Effects
mod Users
