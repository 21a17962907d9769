mod Owners
pub mod Keeps
pub mod GateKeeps
pub mod Wholes
pub mod Gathering
pub mod Statements
pub mod Alike
