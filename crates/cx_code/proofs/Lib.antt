mod Examples
mod Written
