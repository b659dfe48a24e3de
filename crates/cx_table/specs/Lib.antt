pub mod Sorts
pub mod Moves
pub mod Steps
