mod Taken
mod Reduces
mod Next
mod Stands
