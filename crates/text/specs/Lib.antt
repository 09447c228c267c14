-- A word and a number as text, and numbers in a line.
pub mod Words
pub mod Decimal
pub mod Fields
pub mod Zeros
-- How text is written, piece by piece.
pub mod Putting
-- What is true of it.
pub mod Laws
