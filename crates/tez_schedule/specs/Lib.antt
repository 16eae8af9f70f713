pub mod Managers
pub mod State
pub mod Table
pub mod Planned
pub mod Kept
