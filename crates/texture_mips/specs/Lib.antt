pub mod Pass
pub mod Merge
pub mod Paint
pub mod Learn
pub mod Kept
