pub mod Known
pub mod Script
pub mod Job
pub mod Sent
pub mod Moves
pub mod End
pub mod More
pub mod Stepped
