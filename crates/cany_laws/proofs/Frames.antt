-- Proofs of how often the bus carries a frame Clean.
pub mod CarriedAlone
pub mod CarriedBare
pub mod CarriedConfirmed
pub mod CarriedCounts
pub mod CarriedFew
pub mod CarriedFresh
pub mod CarriedRelcan
pub mod CarriedRequests
pub mod CarriedSends
pub mod CarriedSigns
pub mod CarriedTogether
pub mod SignsSent
