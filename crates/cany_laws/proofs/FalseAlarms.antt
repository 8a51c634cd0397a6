-- Proofs of which failures a log tells of.
pub mod AlarmLaws
pub mod AlarmLife
pub mod AlarmNotices
pub mod AlarmSigns
pub mod AlarmStops
