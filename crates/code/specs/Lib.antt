pub mod Codes
pub mod Decoding
pub mod Distance
pub mod Texts
