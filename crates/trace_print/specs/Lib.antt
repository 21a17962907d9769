pub mod LineView
pub mod Writes
pub mod Putting
pub mod Told
pub mod Hops
pub mod Naming
pub mod GoodHistories
