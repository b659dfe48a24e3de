pub mod Types
pub mod Given
pub mod Expressions
pub mod Statements
pub mod Programs
pub mod Units
pub mod Linking
pub mod Laws
