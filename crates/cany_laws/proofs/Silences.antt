-- Proofs of nodes that show no life.
pub mod Detected
pub mod Lives
pub mod LongestUnheard
pub mod Silence
