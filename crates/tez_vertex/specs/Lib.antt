pub mod Table
pub mod Vertex
