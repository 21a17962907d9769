pub mod Part
pub mod State
pub mod Asking
pub mod Ready
pub mod Parts
pub mod Laws
