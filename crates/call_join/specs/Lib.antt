pub mod Lists
pub mod Join
pub mod Contract
