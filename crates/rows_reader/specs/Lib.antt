pub mod Cells
pub mod Rows
pub mod Keys
pub mod Faults
pub mod Loaded
pub mod Texts
pub mod Kept
