pub mod Scans
pub mod FieldLists
pub mod HeadLines
pub mod Printed
pub mod Received
pub mod Sends
pub mod TurnSteps
pub mod Examples
