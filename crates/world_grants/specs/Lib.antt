pub mod WorldGrants
