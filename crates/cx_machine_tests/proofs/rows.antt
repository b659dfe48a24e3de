-- Runs of hand-made images, by the kinds of their instructions.
mod Operands
mod Objects
mod Arithmetic
mod Comparisons
mod Control
mod Outside
mod Contracts
mod Exceptions
mod Depth
mod Spelled
