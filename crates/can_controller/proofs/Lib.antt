pub mod AscendingFacts
pub mod IdentifierFacts
pub mod KeptFacts
pub mod OrderFacts
pub mod PlaceFacts
pub mod SeenFacts
