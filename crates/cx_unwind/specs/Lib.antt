pub mod Painting
pub mod Crossing
