pub mod Views
pub mod ViewsFields
pub mod ViewsSteps
