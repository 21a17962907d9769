pub mod States
pub mod View
pub mod Lanes
pub mod Hops
pub mod Inside
pub mod Calls
pub mod Objects
pub mod Laws
