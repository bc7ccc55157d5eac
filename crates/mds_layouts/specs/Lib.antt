pub mod GivenLayouts
