pub mod EdgeLemmas
pub mod LeaveLemmas
pub mod OutLemmas
pub mod PartLemmas
pub mod PlaceLemmas
pub mod QueueLemmas
