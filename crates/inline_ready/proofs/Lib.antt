pub mod BareReady
