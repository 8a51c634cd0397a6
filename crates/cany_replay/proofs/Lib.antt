pub mod DrawFacts
pub mod MessagePlaces
pub mod StormFacts
pub mod StormTopFacts
