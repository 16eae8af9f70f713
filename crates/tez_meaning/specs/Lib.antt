pub mod Jobs
pub mod Value
pub mod Published
pub mod Known
