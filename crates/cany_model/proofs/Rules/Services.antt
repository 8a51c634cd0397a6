-- Proofs of the protocols that carry messages: EDCAN, RELCAN and TOTCAN.
pub mod AskedFacts
pub mod BacklogFacts
pub mod DeliveryFacts
pub mod DoneFacts
pub mod EagerFacts
pub mod EdcanFacts
pub mod MessageClasses
pub mod MessageKeys
pub mod NoDelivery
pub mod PlaceFacts
pub mod RelcanFacts
pub mod SendFacts
pub mod Timers
pub mod TotcanFacts
