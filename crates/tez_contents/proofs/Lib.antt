pub mod Pieces
pub mod Edges
pub mod Agree
pub mod Feeds
pub mod Allowed
pub mod Complete
pub mod Tasks
pub mod Sent
pub mod Attempts
pub mod Whole
pub mod Entries
pub mod Opening
pub mod Running
mod Rows
