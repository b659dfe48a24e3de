mod Examples
pub mod Lines
pub mod Spells
pub mod Subjects
