pub mod Places
pub mod Laws
pub mod Stages
pub mod Finds
pub mod Joins
pub mod Node
pub mod Hops
