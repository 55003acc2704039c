pub mod Laps
pub mod Breaking
pub mod Unions
pub mod UseCases
pub mod Given
pub mod Pieces
pub mod SetCases
