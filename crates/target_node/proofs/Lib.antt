pub mod Served
pub mod Fetches
pub mod Looks
pub mod Keeps
pub mod Steps
pub mod Adds
pub mod HopLists
