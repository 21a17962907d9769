pub mod Rest
pub mod Moves
pub mod Revoking
pub mod Laws
pub mod Pumps
pub mod Fresh
pub mod Closing
pub mod Stepped
