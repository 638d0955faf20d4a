pub mod Entered
pub mod Live
pub mod Oldest
