-- Turns of the loops, and rows that cannot stay.
pub mod Turns
