pub mod Frames
pub mod Stores
pub mod Made
