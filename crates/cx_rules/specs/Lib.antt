pub mod Judged
pub mod First
pub mod Spans
pub mod Parts
pub mod Tables
