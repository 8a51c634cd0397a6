pub mod ActionFacts
pub mod AskFacts
pub mod HeardFacts
pub mod ViewFacts
