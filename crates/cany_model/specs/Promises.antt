-- What is promised of a run: within which faults, of which messages, and what.
pub mod Acceptance
pub mod Detector
pub mod Entries
pub mod FirstSlots
pub mod Hypothesis
pub mod OneView
pub mod Order
pub mod Quiet
pub mod Safe
pub mod Settled
pub mod Windows
