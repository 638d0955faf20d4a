pub mod Lists
pub mod Same
pub mod Merging
pub mod Places
pub mod Layers
pub mod Serving
pub mod Told
pub mod Used
pub mod Fetching
pub mod Shared
pub mod StepsFit
pub mod LayersFit
pub mod OutsFit
pub mod Unique
pub mod WordsApart
pub mod NumbersGrown
mod Examples
mod Held
mod Passes
mod Rebuilt
mod SameWords
mod Steady
