pub mod Ending
mod WorkedReports
