-- Proofs of how an account is made, and that it is in order.
pub mod LogRecordFacts
pub mod MessageFacts
pub mod NumberedFacts
pub mod OrderlyRun
pub mod PlacesFacts
pub mod RecordFacts
pub mod SignTable
pub mod SignsOfRun
pub mod SlotFacts
pub mod StartFacts
