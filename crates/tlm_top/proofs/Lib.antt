pub mod Completeness
mod Serving
