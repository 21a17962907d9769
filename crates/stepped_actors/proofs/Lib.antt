pub mod Stay
pub mod Begun
