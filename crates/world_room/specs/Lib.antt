pub mod WorldRoom
