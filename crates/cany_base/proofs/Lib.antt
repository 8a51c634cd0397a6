pub mod EmptyFacts
pub mod NodesFacts
pub mod ParamsFacts
pub mod PayloadFacts
pub mod PlaceFacts
pub mod SendCountsFacts
pub mod SetFacts
