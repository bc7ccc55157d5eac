pub mod WorldLayouts
pub mod LayoutsInOrder
