pub mod Opens
pub mod OneClient
pub mod OpensLaws
