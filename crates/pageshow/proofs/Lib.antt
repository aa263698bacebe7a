pub mod Words
pub mod Joined
pub mod Pages
pub mod Shows
pub mod CutOff
pub mod Edges
pub mod Determined
