pub mod Gone
pub mod Removed
pub mod Once
pub mod Sparse
pub mod Logs
pub mod Fewer
pub mod Taken
