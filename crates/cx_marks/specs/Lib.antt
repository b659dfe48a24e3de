pub mod Words
pub mod Marks
pub mod Seen
pub mod Place
