pub mod AwayLemmas
mod WalletLemmas
pub mod PortFacts
mod HandsMore
pub mod Proper
pub mod Goes
pub mod KnowsMore
pub mod FirstHop
pub mod Backs
mod Downs
pub mod Scripts
mod Served
mod Telling
pub mod TakesIn
pub mod TakenBack
pub mod Stocking
mod Stocked
pub mod Loads
mod TakeBack
pub mod Asking
pub mod Adding
