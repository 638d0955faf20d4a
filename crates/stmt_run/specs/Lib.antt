pub mod Store
pub mod Gives
pub mod Laid
pub mod Grouped
pub mod Marks
