pub mod Data
pub mod Few
pub mod Found
pub mod Held
pub mod Marked
pub mod RowCursors
pub mod Texts
pub mod Windowed
