pub mod Passing
pub mod Runs
pub mod Walking
pub mod Painted
pub mod Learnt
