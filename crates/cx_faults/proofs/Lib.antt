pub mod Placeless
pub mod Bounds
pub mod Firsts
