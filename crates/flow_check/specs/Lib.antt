pub mod Checks
pub mod Worked
pub mod Premises
pub mod Reported
