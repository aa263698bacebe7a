pub mod Bounds
pub mod Weights
pub mod Demands
pub mod Told
pub mod Promised
pub mod OnBytes
pub mod Cases
