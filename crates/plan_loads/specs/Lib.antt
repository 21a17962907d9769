pub mod BuiltIn
pub mod Generated
pub mod Totals
pub mod Exits
pub mod Files
pub mod Loads
pub mod Plans
pub mod Told
