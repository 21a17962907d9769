pub mod Padding
pub mod Steps
