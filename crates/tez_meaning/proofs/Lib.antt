pub mod ValueLemmas
pub mod EdgeLists
pub mod JoinLemmas
pub mod ReadLemmas
pub mod TurnLemmas
pub mod WalkLemmas
pub mod Loops
pub mod Rows
