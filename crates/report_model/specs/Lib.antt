pub mod Ends
pub mod Laws
pub mod Report
pub mod Worked
