pub mod Kinds
pub mod Logs
