pub mod View
pub mod Insert
pub mod Coalescing
pub mod Filtering
pub mod Retain
