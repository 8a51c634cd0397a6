-- The exchange of vectors, and one view.
pub mod LoggedViews
pub mod NoLateVectors
pub mod OneVector
pub mod OneView
pub mod ReadableNodes
pub mod SameView
pub mod StartViews
pub mod VectorBudget
pub mod VectorHeld
pub mod VectorKept
pub mod VectorLastEffect
pub mod VectorQuiet
pub mod VectorSets
pub mod VectorSlots
pub mod VectorSteps
pub mod VectorTurns
