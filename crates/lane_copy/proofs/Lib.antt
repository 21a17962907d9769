pub mod Merged
pub mod Repeats
pub mod Stretches
pub mod Vectors
