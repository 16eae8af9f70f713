pub mod Dag
pub mod Faults
pub mod Graph
pub mod Kept
pub mod Order
pub mod Ranges
