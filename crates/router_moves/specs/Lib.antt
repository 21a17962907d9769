pub mod Items
pub mod Moves
pub mod Turns
