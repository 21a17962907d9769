pub mod Trying
pub mod Dues
pub mod Adds
