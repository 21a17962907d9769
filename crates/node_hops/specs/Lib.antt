pub mod Hops
pub mod Looks
pub mod Steps
pub mod Laws
pub mod Traits
