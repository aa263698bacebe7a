pub mod Arguments
pub mod Bytes
pub mod Names
pub mod Wording
pub mod Edges
