pub mod Reads
pub mod Answer
pub mod Keyed
pub mod Runs
pub mod Words
pub mod Numbers
