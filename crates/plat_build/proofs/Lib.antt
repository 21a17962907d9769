pub mod WalletLemmas
pub mod MemoryLemmas
pub mod SupplyLemmas
pub mod HopLemmas
pub mod PoolLemmas
pub mod KeptLemmas
pub mod StartLemmas
pub mod OpenLemmas
pub mod BuildLemmas
pub mod WaitLemmas
pub mod IdleLemmas
pub mod UnusedLemmas
mod GateLemmas
