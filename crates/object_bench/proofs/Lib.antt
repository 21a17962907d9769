pub mod Benches
pub mod ReadyPools
