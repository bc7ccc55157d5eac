pub mod SameServer
