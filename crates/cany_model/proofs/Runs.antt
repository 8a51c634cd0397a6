-- Runs: what every run has, and how an invariant is proved of every run.
pub mod FollowFacts
pub mod Following
pub mod FrameInvariants
pub mod Journals
pub mod PresentIncarnations
pub mod RoundRobinEnds
pub mod Rounds
pub mod Runs
pub mod SlotStates
pub mod Steps
