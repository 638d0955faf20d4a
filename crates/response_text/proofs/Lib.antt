pub mod Below
pub mod Roots
pub mod Pieces
pub mod Whole
