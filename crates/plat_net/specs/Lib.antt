pub mod Objects
pub mod Net
pub mod Calls
pub mod Places
pub mod HopCalls
pub mod PoolCalls
pub mod MemoryCalls
pub mod Laws
