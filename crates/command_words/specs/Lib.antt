pub mod Words
pub mod Commands
pub mod Shape
pub mod Parser
