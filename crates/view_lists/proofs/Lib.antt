pub mod Places
pub mod Members
pub mod Totals
pub mod Keys
pub mod Distinct
pub mod Searches
