-- Proofs of who is admitted by a JOIN.
pub mod AdmissionAsked
pub mod AdmissionHeard
pub mod AdmissionJoined
pub mod AdmissionKnown
pub mod AdmissionLives
pub mod AdmissionTaken
pub mod AdmissionVectors
