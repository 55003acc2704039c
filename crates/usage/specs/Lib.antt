pub mod BitLaws
pub mod CountLaws
pub mod Gathered
pub mod Ones
pub mod StateLaws
