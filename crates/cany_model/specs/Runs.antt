-- Runs: steps and journals, and the state that they lead to.
pub mod Follow
pub mod Incarnations
pub mod RoundRobin
pub mod Run
