pub mod Code
pub mod Tables
pub mod Emitted
pub mod Literals
