pub mod EventQueue
pub mod Waiting
pub mod Line
pub mod Kept
