pub mod Portions
pub mod Each
pub mod Phrase
pub mod State
pub mod Found
pub mod Report
pub mod Said
pub mod Whole
