pub mod Holdings
pub mod Events
