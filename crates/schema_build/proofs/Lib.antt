pub mod Joined
pub mod Found
pub mod Kept
pub mod Whole
pub mod Looking
