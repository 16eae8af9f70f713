pub mod FixedForm
pub mod Sameness
