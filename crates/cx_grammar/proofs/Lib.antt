pub mod Good
pub mod Standing
pub mod Realize
pub mod Completion
pub mod Known
pub mod Begun
