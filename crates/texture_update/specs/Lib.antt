pub mod Pair
pub mod Both
pub mod Learning
pub mod Update
pub mod Pieces
pub mod FromSet
