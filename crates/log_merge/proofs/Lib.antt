pub mod ClosedForm
pub mod RestClaims
pub mod Scanning
pub mod Needing
pub mod Weaving
pub mod Merging
