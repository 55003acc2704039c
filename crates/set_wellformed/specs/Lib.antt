pub mod Parts
pub mod Unknowns
pub mod Proper
pub mod Words
pub mod Whole
