pub mod Piece
pub mod Cut
pub mod Shelf
pub mod Slots
