pub mod Keeper
pub mod Laws
