pub mod ArgWords
pub mod PathWords
pub mod Walk
