pub mod Tracked
pub mod Slot
pub mod GivenSlot
pub mod Used
