pub mod Keeping
pub mod Step
pub mod Store
pub mod Begin
pub mod Commit
pub mod Reports
