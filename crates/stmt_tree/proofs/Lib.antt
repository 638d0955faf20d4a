pub mod Meaning
pub mod Form
pub mod Batched
pub mod Places
