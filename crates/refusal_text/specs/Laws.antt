-- The table in front, how long a text can be, that it has no zero byte, and that it tells the refusal.
pub mod About
pub mod Lengths
pub mod Zeros
pub mod Differ
