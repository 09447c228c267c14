-- Rows one by one, and how long lines can be.
pub mod Rows
pub mod Lengths
