pub mod Onward
pub mod Behind
pub mod Settled
pub mod Knowing
pub mod Forward
pub mod Backward
pub mod Determined
