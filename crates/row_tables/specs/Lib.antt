pub mod Rows
pub mod Set
pub mod Seat
