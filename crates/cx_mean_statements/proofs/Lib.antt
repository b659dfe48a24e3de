pub mod OpenedStatement
pub mod Passes
