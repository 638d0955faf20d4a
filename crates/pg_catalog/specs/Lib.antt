pub mod Names
pub mod Columns
pub mod Constraints
pub mod Faults
pub mod Added
pub mod Built
pub mod Texts
pub mod Indexed
