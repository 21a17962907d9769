pub mod Closed
pub mod Finished
pub mod Laws
pub mod Done
pub mod Leaves
pub mod GrantLaws
