pub mod Phases
pub mod Sequences
pub mod Walks
pub mod Laws
