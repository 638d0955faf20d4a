pub mod Closures
pub mod FirstPlaces
pub mod Firsts
pub mod Listing
