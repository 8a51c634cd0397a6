-- Proofs of the text of a verdict.
pub mod CountFacts
pub mod HeadFacts
pub mod LineFacts
pub mod TextFacts
