pub mod Apart
pub mod Room
pub mod Taking
pub mod Entries
pub mod Run
pub mod End
