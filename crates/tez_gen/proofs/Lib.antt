pub mod Lines
pub mod Lengths
mod Rows
