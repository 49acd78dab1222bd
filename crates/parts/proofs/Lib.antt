pub mod CodeFacts
pub mod UnitLaws
pub mod UnitSteps
pub mod MergeFacts
