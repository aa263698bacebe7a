pub mod Replayed
pub mod Lines
pub mod Edges
