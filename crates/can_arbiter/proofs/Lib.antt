pub mod EnterFacts
pub mod LeastFacts
pub mod OfferFacts
pub mod OrderFacts
pub mod RestFacts
pub mod SenderFacts
pub mod WalkFacts
pub mod WinnerFacts
