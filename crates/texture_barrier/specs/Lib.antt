pub mod Over
pub mod Entries
pub mod Written
pub mod Sinks
pub mod Taking
pub mod Steps
pub mod Mips
pub mod Textures
