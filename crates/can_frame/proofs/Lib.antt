pub mod ClassFacts
pub mod DecodingFacts
mod FaultFacts
pub mod FieldFacts
pub mod IdentityFacts
