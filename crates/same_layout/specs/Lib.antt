pub mod SameLayout
