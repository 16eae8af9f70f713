pub mod View
pub mod Events
pub mod Statements
