pub mod ProperServers
