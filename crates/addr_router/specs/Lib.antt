pub mod Windows
pub mod InOrder
pub mod Laws
