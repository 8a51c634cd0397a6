-- The text of a verdict.
pub mod CheckHead
pub mod CheckLines
pub mod CheckText
pub mod Counts
pub mod FateParts
pub mod HeadParts
pub mod TextParts
