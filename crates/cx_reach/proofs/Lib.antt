mod Joined
mod Grown
mod Begun
mod Turns
mod Agreeing
mod Unbroken
mod Kept
mod Ordered
