pub mod Slots
pub mod Lives
pub mod Pool
pub mod Inside
pub mod Calls
pub mod Laws
pub mod Released
