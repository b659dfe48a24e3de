pub mod Judging
pub mod Passing
pub mod Spanning
pub mod Regions
pub mod Lowest
pub mod Tabled
pub mod Accepting
