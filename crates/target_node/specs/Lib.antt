pub mod Items
pub mod Node
pub mod Laws
pub mod Hops
