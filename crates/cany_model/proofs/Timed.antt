-- The timed guarantees: few frames in a window, the quiet slot, acceptance, one order, one view,
-- and the failure detector.
pub mod Common
pub mod Detector
pub mod Guarantees
pub mod Order
pub mod Safety
pub mod Views
pub mod Windows
