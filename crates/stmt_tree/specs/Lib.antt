pub mod Meaning
pub mod Form
pub mod Batches
pub mod Places
