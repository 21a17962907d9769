pub mod Entries
pub mod Ports
pub mod Nodes
pub mod Actors
pub mod Turn
pub mod HandedIn
pub mod Begun
