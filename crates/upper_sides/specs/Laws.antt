-- Least values over parts, the lowest one of a number, chains of sides, and the way along them.
pub mod Parts
pub mod Lowest
pub mod Uppers
