pub mod Stepped
pub mod Laws
