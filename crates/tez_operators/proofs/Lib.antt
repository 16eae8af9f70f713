pub mod TotalLemmas
pub mod KeyRowLemmas
pub mod GroupLemmas
pub mod RowLemmas
pub mod ProcessLemmas
pub mod PartLemmas
pub mod HeadLemmas
pub mod FuseLemmas
