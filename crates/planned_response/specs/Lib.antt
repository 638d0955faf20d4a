pub mod Plans
pub mod Responses
