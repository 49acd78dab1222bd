pub mod Picked
pub mod Parity
pub mod Found
pub mod Distances
pub mod Decoded
