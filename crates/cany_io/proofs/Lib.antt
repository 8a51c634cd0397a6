pub mod FaultFacts
pub mod SinkFacts
pub mod SourceFacts
