mod FindLemmas
mod InOrderLemmas
pub mod FaultLemmas
mod UpLemmas
mod Rows
