pub mod Asks
pub mod Life
pub mod Slots
pub mod Vector
