-- A table of rows that ascends, and a row put in its place.
pub mod Rows
-- What the contracts of `rows` say.
pub mod Putting
-- What is true of it.
pub mod Laws
