pub mod GatherLemmas
pub mod BeginLemmas
pub mod PortLemmas
pub mod NodeLemmas
