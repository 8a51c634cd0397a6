-- The bus: slots, what waits, and what a node has read.
pub mod Carried
pub mod EachRead
pub mod Identities
pub mod Notes
pub mod Restarts
pub mod Seen
pub mod States
