pub mod CutLemmas
pub mod IndexLemmas
pub mod OrderLemmas
pub mod Rows
pub mod ShelfLemmas
pub mod SlotLemmas
pub mod WantLemmas
