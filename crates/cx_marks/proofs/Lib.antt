pub mod Names
pub mod Steps
pub mod Fronts
pub mod OneNumber
pub mod Places
