pub mod Joined
pub mod Small
pub mod Places
pub mod Sdl
pub mod Looking
pub mod FaultLine
