pub mod Apart
pub mod Numbers
pub mod Taken
pub mod Examples
pub mod PlainForm
