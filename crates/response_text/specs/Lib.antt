pub mod Paths
pub mod Responses
