pub mod Merge
pub mod Places
pub mod Outcome
