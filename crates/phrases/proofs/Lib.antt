pub mod Lined
pub mod Phrased
pub mod Edges
pub mod Determined
