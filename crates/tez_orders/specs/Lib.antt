pub mod Orders
pub mod Fit
pub mod Outcomes
