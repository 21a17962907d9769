pub mod Logs
