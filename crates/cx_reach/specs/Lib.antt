pub mod Comes
pub mod Says
pub mod Joins
pub mod Effects
pub mod Agreement
pub mod Broken
pub mod Order
