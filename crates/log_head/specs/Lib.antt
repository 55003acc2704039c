pub mod Log
pub mod UpTo
pub mod Called
