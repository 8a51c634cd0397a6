-- Proofs of the logs of all incarnations: their order, what is delivered in time, what is final.
pub mod DeliveredByEach
pub mod DeliveredInTime
pub mod DoneTurns
pub mod FinalLogs
pub mod IntegralLogs
pub mod NoLateDelivery
pub mod OneSequence
pub mod OrderLists
pub mod OrderOfEach
pub mod OrderReading
pub mod StaySettled
