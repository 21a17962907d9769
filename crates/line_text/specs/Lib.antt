pub mod Pieces
pub mod Numbering
pub mod FrontText
pub mod AccessText
pub mod EventText
pub mod RowText
pub mod CallText
