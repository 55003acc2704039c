pub mod Pairs
pub mod Lessons
pub mod Turns
pub mod Cases
pub mod PieceCases
pub mod Takes
pub mod SetCases
