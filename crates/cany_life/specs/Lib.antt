pub mod Life
pub mod LifeFields
pub mod LifeSteps
