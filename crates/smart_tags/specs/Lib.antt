pub mod Lines
pub mod Tags
pub mod Parts
