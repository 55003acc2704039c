pub mod Walking
pub mod Walks
pub mod Ready
pub mod Uses
pub mod Giving
pub mod FromSet
