pub mod StepLemmas
pub mod WordLemmas
pub mod NumberLemmas
pub mod OrderLemmas
pub mod KeyLemmas
pub mod RowLemmas
pub mod PairLemmas
pub mod GoodLemmas
