pub mod Status
pub mod Told
pub mod Stages
pub mod Commands
pub mod Parts
pub mod Run
