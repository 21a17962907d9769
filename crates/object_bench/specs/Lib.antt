pub mod Gates
pub mod Ready
