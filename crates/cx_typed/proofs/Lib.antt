pub mod Comes
pub mod Ranges
pub mod Objects
pub mod States
pub mod Scopes
pub mod Expressions
pub mod Checks
pub mod Statements
pub mod Whole
pub mod Renaming
pub mod Units
pub mod Images
mod Examples
