pub mod Causes
pub mod Pieces
pub mod Files
pub mod Folder
pub mod LibraryState
pub mod SinkState
pub mod StreamState
