pub mod Constraints
pub mod Laws
pub mod Noted
pub mod Path
pub mod Same
pub mod Tests
