pub mod OneSpelling
