pub mod Asking
pub mod Collected
pub mod Growing
pub mod Trees
pub mod Fragments
pub mod Kept
pub mod CollectLaws
