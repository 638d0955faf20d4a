pub mod Failures
pub mod Laid
pub mod Layout
pub mod Leaves
pub mod Printed
pub mod Responses
