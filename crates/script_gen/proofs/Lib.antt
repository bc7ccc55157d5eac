pub mod DrawLemmas
pub mod LineWords
pub mod NumberWords
pub mod EventLines
pub mod GeneratedLines
