pub mod Sheets
pub mod Published
