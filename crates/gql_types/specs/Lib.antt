pub mod Positions
pub mod Types
