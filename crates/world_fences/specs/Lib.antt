pub mod WorldFences
