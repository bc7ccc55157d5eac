pub mod WorldHolders
