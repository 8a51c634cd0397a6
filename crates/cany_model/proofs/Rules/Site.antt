-- Proofs of what a node knows of the site: life, failure signs, vectors and views.
pub mod CycleFacts
pub mod FirstCycle
pub mod KnowledgeFacts
pub mod KnowledgeNodes
pub mod KnowledgeSteps
pub mod LifeCounts
pub mod LifeFacts
pub mod MembershipEntries
pub mod NoEarlyVectors
pub mod SignFacts
pub mod SignLog
pub mod SignRooms
pub mod VectorFacts
pub mod ViewFacts
pub mod ViewLog
