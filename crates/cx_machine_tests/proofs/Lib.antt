mod rows
mod Asked
mod Marks
mod Functions
mod Valid
