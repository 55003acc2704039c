pub mod Trace
pub mod Untouched
pub mod Client
