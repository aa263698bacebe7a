pub mod Marks
pub mod Weights
pub mod Bits
pub mod Reported
pub mod Edges
