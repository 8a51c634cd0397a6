pub mod Causes
pub mod DueFacts
pub mod NumberFacts
pub mod PerformedFacts
pub mod PerformingFacts
pub mod RefusedFacts
pub mod RunFacts
pub mod WordFacts
