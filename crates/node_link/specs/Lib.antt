pub mod Callees
pub mod Clock
pub mod Link
pub mod NodeLinks
pub mod Silence
