pub mod Actors
pub mod Begin
pub mod Laws
pub mod Made
pub mod Ends
