pub mod ActFacts
pub mod CycleFacts
pub mod MetFacts
pub mod PastFacts
pub mod ReadFacts
pub mod RestFacts
pub mod TurnFacts
