pub mod Added
pub mod DraftLaws
pub mod Laws
pub mod Drafted
pub mod Listed
pub mod Planned
pub mod Slots
