pub mod RowLoops
pub mod ReadLemmas
