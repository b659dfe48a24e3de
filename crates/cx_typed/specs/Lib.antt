pub mod Typed
pub mod Weight
pub mod Unit
pub mod Built
pub mod Laws
