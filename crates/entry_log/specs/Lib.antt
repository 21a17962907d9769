pub mod Log
pub mod LogBytes
