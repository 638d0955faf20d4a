pub mod Seats
pub mod Kept
pub mod Runs
pub mod Parts
pub mod Unique
