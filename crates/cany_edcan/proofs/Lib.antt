pub mod EdcanFacts
