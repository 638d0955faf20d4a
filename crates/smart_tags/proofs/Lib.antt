pub mod Cuts
pub mod LineFacts
pub mod TagFacts
