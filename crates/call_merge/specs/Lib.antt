pub mod Merged
pub mod Met
pub mod Slot
pub mod Scope
pub mod Contract
