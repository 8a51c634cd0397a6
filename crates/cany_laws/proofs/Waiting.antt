-- Proofs of how long a frame waits.
pub mod WaitAsked
pub mod WaitAsksOnce
pub mod WaitDelivered
pub mod WaitEd
pub mod WaitFallBack
pub mod WaitMessages
pub mod WaitNodes
pub mod WaitOrder
pub mod WaitOwnFirst
pub mod WaitRel
pub mod WaitSlots
pub mod WaitTimes
pub mod WaitTotals
pub mod WaitUnsent
pub mod WaitWindows
