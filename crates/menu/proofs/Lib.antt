pub mod Edges
pub mod Determined
