pub mod Written
pub mod Ordered
