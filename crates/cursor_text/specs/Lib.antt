pub mod CursorText
pub mod Marked
pub mod Reader
pub mod Reading
