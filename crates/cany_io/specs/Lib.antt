pub mod Faults
pub mod InMemory
pub mod Sink
pub mod Source
pub mod Standard
