pub mod HopLists
pub mod Latencies
pub mod Looks
pub mod Lists
pub mod News
pub mod Adds
