pub mod Seen
pub mod Removal
