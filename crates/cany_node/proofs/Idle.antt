-- Idle slots, read in bulk: that what is skipped for speed may be skipped.
pub mod IdleFacts
pub mod IdleTurn
pub mod MembershipRest
pub mod PassFacts
pub mod RestFacts
