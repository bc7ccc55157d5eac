pub mod Generated
pub mod DrawnValue
pub mod ScriptLaw
