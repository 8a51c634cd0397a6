pub mod EagerFacts
pub mod LearntFacts
pub mod MadeFacts
pub mod RoomFacts
