pub mod ImageFormat
pub mod Standing
