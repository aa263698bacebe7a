pub mod Arguments
pub mod Built
pub mod Sheet
pub mod Edges
