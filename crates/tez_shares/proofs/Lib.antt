pub mod CutLemmas
pub mod ShareLemmas
pub mod EdgeLemmas
pub mod TaskLemmas
pub mod LawOfShares
pub mod Shared
pub mod FitsLemmas
pub mod Rows
