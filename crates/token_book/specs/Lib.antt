pub mod Account
pub mod Rule
pub mod Ticket
pub mod Pocket
pub mod Purse
