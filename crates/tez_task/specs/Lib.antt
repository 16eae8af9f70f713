pub mod TaskState
pub mod Table
