-- Which saying of a list is a number's.
pub mod Turns
