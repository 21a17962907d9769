pub mod ReadLemmas
pub mod Arrives
