pub mod Numbers
pub mod Attempts
pub mod Back
pub mod OneTrace
pub mod Refused
pub mod Cuts
pub mod Lines
pub mod Each
