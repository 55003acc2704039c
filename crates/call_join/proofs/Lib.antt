pub mod Logs
pub mod Setting
pub mod Joined
pub mod Few
