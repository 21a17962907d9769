pub mod Seats
pub mod Calls
pub mod Gates
mod Numbering
