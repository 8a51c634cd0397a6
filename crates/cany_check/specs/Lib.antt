pub mod Accounts
pub mod Deciding
pub mod Idle
pub mod InOrder
pub mod NoFault
pub mod Promise
pub mod Texts
pub mod Top
