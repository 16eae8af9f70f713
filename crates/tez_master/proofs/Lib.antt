pub mod Rooms
pub mod Commit
pub mod Reports
