pub mod Streams
pub mod Files
pub mod Counts
pub mod MemFiles
pub mod Plan
