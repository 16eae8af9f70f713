pub mod Kept
pub mod Sizes
pub mod Routed
pub mod Answered
pub mod Unbroken
