pub mod Counts
pub mod Prefixes
pub mod Lines
mod Rows
