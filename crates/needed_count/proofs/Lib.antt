mod Apart
mod Distinct
mod Held
mod Paths
mod Same
mod SameTests
mod Walked
