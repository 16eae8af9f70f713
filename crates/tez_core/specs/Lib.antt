pub mod Parts
pub mod Prepared
pub mod Choosing
pub mod Lost
