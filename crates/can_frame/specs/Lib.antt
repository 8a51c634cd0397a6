pub mod Classes
pub mod Decoding
pub mod Field
pub mod Identifier
