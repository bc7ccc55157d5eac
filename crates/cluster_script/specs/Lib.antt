pub mod ScriptWords
pub mod ClusterLines
