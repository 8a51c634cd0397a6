-- Few frames in a window, and the quiet slot.
pub mod AskingSlots
pub mod FewSigns
pub mod FewVectors
pub mod OwnLifeSigns
pub mod QuietSlots
pub mod SignKept
pub mod SignTops
pub mod TopFrames
