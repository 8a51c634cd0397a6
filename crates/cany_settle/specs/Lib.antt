pub mod LastEvent
pub mod LongEnough
pub mod TailText
pub mod Top
