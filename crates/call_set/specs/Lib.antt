pub mod Used
pub mod Contract
