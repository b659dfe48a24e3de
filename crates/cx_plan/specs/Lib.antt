pub mod Line
pub mod Spelled
pub mod Reading
pub mod Subjects
pub mod Names
pub mod Chosen
