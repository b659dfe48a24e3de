pub mod Seen
pub mod Place
pub mod Library
pub mod Ran
pub mod Arithmetic
