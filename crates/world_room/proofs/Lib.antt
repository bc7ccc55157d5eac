pub mod FewEntries
