pub mod FormedSends
