-- The bus: what happens in a slot, what waits, and what a node has read.
pub mod Frames
pub mod History
pub mod Restart
pub mod Slot
pub mod State
pub mod Waiting
