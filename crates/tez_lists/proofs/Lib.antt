pub mod Cases
pub mod Flat
pub mod Members
pub mod Ranges
pub mod Sorted
pub mod Sums
pub mod Tables
