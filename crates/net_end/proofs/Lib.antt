pub mod Reading
pub mod Leaving
pub mod PortGrants
pub mod Finishing
pub mod Wholes
pub mod Places
pub mod Closing
