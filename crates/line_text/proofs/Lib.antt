pub mod Adding
pub mod VectorLemmas
pub mod WordLemmas
pub mod NumberLemmas
pub mod HexLemmas
mod CallLemmas
pub mod NumberingLemmas
