pub mod Members
pub mod Plans
pub mod Fitting
pub mod Configured
pub mod Legal
pub mod Ready
pub mod Stalled
pub mod NotStuck
pub mod Opening
pub mod RunFits
pub mod Ending
mod Rows
