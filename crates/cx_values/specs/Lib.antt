pub mod Values
pub mod View
pub mod Sorts
pub mod Needs
