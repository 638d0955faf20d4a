pub mod ArgumentFacts
pub mod Entries
pub mod Integers
pub mod Json
pub mod Levels
pub mod LiteralFacts
mod Samples
pub mod Turns
