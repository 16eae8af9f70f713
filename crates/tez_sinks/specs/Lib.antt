pub mod Sinks
pub mod Well
