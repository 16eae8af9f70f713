pub mod Steps
pub mod Heads
pub mod Program
