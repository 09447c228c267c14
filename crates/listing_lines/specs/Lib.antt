-- What the lines of a listing are.
pub mod Lines
-- What is true of them.
pub mod Laws
