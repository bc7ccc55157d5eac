pub mod Machines
pub mod Sent
pub mod ClusterWorlds
pub mod ClusterRuns
