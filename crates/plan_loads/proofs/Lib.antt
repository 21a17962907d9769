mod Lines
mod Loading
mod LoneShape
mod Planning
mod Counting
pub mod Sums
mod Naming
pub mod Told
pub mod Ample
