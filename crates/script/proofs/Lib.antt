pub mod WriteFacts
pub mod RunFacts
pub mod FreshFacts
pub mod GoingOn
