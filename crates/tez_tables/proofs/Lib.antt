pub mod RouteLemmas
pub mod Rows
pub mod TableLemmas
