pub mod Words
pub mod Reading
pub mod Places
pub mod Verified
