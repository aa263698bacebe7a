pub mod OwedWords
pub mod Parts
pub mod ModelTests
pub mod Passing
pub mod Searching
pub mod Reported
pub mod Edges
pub mod Determined
