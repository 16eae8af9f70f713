mod Rows
pub mod BagLemmas
pub mod BlockLemmas
pub mod FieldLemmas
pub mod FindLemmas
pub mod FrontLemmas
pub mod LineLemmas
pub mod LoopLemmas
pub mod PartsLemmas
pub mod SplitLemmas
