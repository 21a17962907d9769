pub mod GateLemmas
pub mod Transports
mod Consistent
mod Told
pub mod Cost
pub mod Written
mod Rows
pub mod Least
pub mod Granted
mod DirectLemmas
