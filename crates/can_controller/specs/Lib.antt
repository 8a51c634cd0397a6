pub mod Controller
pub mod ControllerFields
pub mod Waiting
