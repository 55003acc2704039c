pub mod Shift
pub mod Covering
pub mod Isolating
pub mod Counting
