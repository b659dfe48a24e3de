pub mod Command
pub mod Value
pub mod Verbs
pub mod Words
pub mod Laws
