pub mod Queue
pub mod Sound
pub mod Counts
