pub mod Layers
pub mod Groups
pub mod Keys
pub mod Planned
pub mod Again
pub mod Room
pub mod Marks
