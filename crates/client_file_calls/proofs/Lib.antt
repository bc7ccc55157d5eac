pub mod Numbers
pub mod Addresses
pub mod ManyLemmas
pub mod Reports
pub mod Sliced
