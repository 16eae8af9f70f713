pub mod Pairs
pub mod Bodies
