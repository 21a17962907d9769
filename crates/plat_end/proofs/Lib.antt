pub mod TicketLemmas
pub mod PartLemmas
pub mod TakenLemmas
pub mod OrderLemmas
pub mod LogLemmas
pub mod WholeLemmas
pub mod RoomLemmas
