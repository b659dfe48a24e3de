mod Changes
pub mod Covering
mod Layers
mod Fronts
