pub mod Fields
pub mod Names
pub mod Nodes
pub mod Listed
pub mod Reached
pub mod Rules
pub mod Sorts
pub mod Uses
