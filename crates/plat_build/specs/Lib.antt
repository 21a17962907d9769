pub mod Opened
pub mod Kept
pub mod Tickets
pub mod Unused
pub mod Supplies
pub mod Hops
