pub mod LaneShares
pub mod Told
