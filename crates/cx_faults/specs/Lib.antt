pub mod Faults
pub mod Nowhere
