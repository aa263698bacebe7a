pub mod Fields
pub mod Edges
