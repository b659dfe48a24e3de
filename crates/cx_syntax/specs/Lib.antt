pub mod Tree
pub mod View
pub mod Same
pub mod Spell
pub mod Shaped
pub mod Place
