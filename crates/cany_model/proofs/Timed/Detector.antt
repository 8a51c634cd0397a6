-- The failure detector: accuracy, removal, admission.
pub mod Accuracy
pub mod DetectorLaws
pub mod HeardWithin
pub mod Joining
pub mod Leaving
pub mod NoRestarts
pub mod Removal
pub mod ShowsInTime
pub mod SilentNode
pub mod Staying
pub mod Stopped
pub mod VectorsAgreeOn
