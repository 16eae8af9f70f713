pub mod Elsewhere
pub mod View
pub mod Statements
