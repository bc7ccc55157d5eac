pub mod Weaves
pub mod ClientLives
pub mod NodeHistories
