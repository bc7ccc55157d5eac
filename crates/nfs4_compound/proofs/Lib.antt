pub mod Unbuilt
pub mod Steps
pub mod Listings
pub mod Statuses
pub mod Unions
pub mod JoinedUnions
