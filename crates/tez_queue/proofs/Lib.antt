pub mod DepthLemmas
pub mod FirstLemmas
pub mod ListLemmas
pub mod OrderLemmas
pub mod SetLemmas
pub mod Shallowest
