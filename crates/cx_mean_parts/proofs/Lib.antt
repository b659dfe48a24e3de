pub mod Pushed
pub mod Lookups
pub mod SameTypes
