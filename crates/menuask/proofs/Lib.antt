pub mod Begins
pub mod Once
pub mod Determined
