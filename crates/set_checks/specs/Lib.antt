pub mod Head
pub mod Sets
pub mod Passed
