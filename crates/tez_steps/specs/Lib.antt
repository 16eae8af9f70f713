pub mod Step
pub mod Holds
pub mod Parts
pub mod Taking
pub mod Committing
pub mod Reporting
