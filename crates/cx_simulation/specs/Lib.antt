pub mod Machine
pub mod ImageMachine
pub mod Laws
pub mod Parts
