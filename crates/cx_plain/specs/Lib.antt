pub mod Task
pub mod Applied
pub mod Step
pub mod Run
pub mod Laws
