pub mod Pairs
pub mod Parities
pub mod PairLaws
pub mod CutFacts
pub mod ParityLaws
pub mod ParityFacts
