pub mod CardFacts
