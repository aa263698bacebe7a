pub mod Shift
pub mod Marking
pub mod After
pub mod Edges
