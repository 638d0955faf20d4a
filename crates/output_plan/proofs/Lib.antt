pub mod Tables
pub mod ShownLeaves
pub mod Members
pub mod Objects
pub mod Errors
pub mod Turns
pub mod Whole
