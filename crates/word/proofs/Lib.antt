pub mod Values
pub mod LaneFacts
pub mod FaultFacts
