pub mod Explained
pub mod Values
pub mod WayLines
