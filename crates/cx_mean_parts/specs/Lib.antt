pub mod Seen
pub mod Tasks
pub mod Frames
pub mod Steps
pub mod Parts
pub mod StatementParts
pub mod CallParts
