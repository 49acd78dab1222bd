pub mod HexFacts
pub mod FieldFacts
pub mod OneText
