pub mod Firsts
pub mod Plans
pub mod NextSink
pub mod LostLemmas
mod Given
pub mod Taken
