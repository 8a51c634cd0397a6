-- Idle slots, made in bulk: that what is skipped for speed may be skipped.
pub mod FreeFacts
pub mod IdleNotes
pub mod IdleRound
pub mod IdleRounds
pub mod IdleSlots
pub mod JournalRounds
pub mod PassFacts
pub mod RestFacts
pub mod RestSteps
pub mod StretchFacts
