pub mod Above
pub mod Bare
mod BlogExample
pub mod Checks
pub mod Distinct
pub mod Drafted
pub mod Fixed
pub mod Lean
pub mod Moved
pub mod ReadFetches
pub mod Rows
pub mod Signed
pub mod Stances
pub mod Sums
pub mod Waiting
pub mod Whole
