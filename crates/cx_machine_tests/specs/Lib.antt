pub mod Checked
pub mod Named
