pub mod StepLemmas
pub mod HeadLemmas
pub mod SameLemmas
pub mod BadLemmas
