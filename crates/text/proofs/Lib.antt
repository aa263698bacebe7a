pub mod Puts
pub mod Figures
pub mod Determined
