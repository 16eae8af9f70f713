pub mod Index
pub mod Kept
pub mod State
pub mod Table
pub mod Victim
