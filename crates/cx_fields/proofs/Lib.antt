pub mod Format
pub mod Loop
pub mod PartFormats
pub mod Whole
pub mod Weights
