pub mod Code
pub mod Place
pub mod Reading
pub mod Name
pub mod Windows
pub mod Bounded
