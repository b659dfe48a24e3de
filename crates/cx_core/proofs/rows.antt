-- Worked programs and what they mean, each computed.
mod Writing
mod Numbers
mod Assertions
mod Expressions
mod Blocks
mod Classes
mod Exceptions
mod Handlers
mod Account
mod Depth
mod Made
mod Lifetimes
mod Objects
mod Pointers
mod Units
