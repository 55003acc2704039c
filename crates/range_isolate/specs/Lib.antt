pub mod Isolation
pub mod Tiling
