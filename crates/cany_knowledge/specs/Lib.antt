pub mod ClosedForms
