pub mod World
pub mod Holds
pub mod Taking
pub mod Begun
pub mod Driving
pub mod Lawful
