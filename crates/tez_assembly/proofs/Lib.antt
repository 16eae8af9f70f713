pub mod EdgeLemmas
pub mod ReadLemmas
pub mod FitLemmas
pub mod BagLemmas
pub mod CutLemmas
pub mod FillLemmas
pub mod LoopLemmas
