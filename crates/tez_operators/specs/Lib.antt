pub mod Process
pub mod Totals
pub mod Groups
pub mod Members
pub mod Words
pub mod Fuse
