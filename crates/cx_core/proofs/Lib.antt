mod rows
pub mod Everywhere
pub mod EverywhereMeaning
pub mod Invariant
mod BeginsTold
mod InputRead
pub mod Numbered
mod LargerBudget
mod Budget
mod RowsTaken
mod Apart
