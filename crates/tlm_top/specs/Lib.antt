pub mod Headline
pub mod Complete
pub mod Serving
pub mod Kept
