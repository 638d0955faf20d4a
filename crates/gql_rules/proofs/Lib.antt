pub mod Together
pub mod OneFault
