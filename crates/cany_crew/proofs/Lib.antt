pub mod FinishFacts
pub mod GateFacts
pub mod AssignmentFacts
pub mod TopFacts
