pub mod PageBytes
pub mod PartLemmas
pub mod PlaceLemmas
pub mod PutLemmas
pub mod ReadLemmas
pub mod WriteLemmas
