pub mod Chains
pub mod WalkLemmas
pub mod PathLemmas
pub mod CopyLemmas
pub mod SinglePaths
