pub mod ByName
pub mod Delivered
pub mod Passed
