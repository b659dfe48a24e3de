pub mod Literal
pub mod Front
pub mod Core
pub mod Made
pub mod Laws
