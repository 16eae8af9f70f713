pub mod DealLemmas
pub mod PartitionLemmas
pub mod Rows
