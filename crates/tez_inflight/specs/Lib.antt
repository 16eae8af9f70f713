pub mod Seats
pub mod Given
pub mod Held
