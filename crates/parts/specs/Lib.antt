pub mod Merges
pub mod Units
