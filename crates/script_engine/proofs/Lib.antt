pub mod Steps
pub mod Remaining
pub mod States
pub mod Payloads
