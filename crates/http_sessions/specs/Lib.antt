pub mod HeadEnd
pub mod HeadTests
pub mod Messages
pub mod ReplyText
pub mod SessionRuns
pub mod Windows
pub mod Turns
