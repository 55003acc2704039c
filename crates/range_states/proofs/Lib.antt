pub mod Agree
pub mod Records
pub mod Joining
pub mod Inserting
pub mod Overlaps
