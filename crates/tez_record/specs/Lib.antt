pub mod Line
pub mod Field
pub mod Bag
pub mod Block
pub mod Front
pub mod Find
pub mod Test
