pub mod WorkedRuns
pub mod EachLemmas
pub mod LogLemmas
pub mod HistoryLemmas
pub mod PartsLemmas
pub mod RequestLemmas
pub mod InitiatorLemmas
