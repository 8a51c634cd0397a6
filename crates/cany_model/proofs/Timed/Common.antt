-- What the timed guarantees share: slots by their ages, and the last effect on a frame.
pub mod Ages
pub mod Counting
pub mod KnowledgeAges
pub mod LastEffect
pub mod OwnSlots
pub mod Pigeonhole
pub mod SeenAges
pub mod StepsWithoutRestarts
