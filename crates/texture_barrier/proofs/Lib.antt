pub mod Remaining
pub mod Few
pub mod Holding
