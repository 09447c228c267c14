-- What the bits of a buffer are, and what a stored form is.
pub mod Bits
pub mod Forms
-- A list made place by place.
pub mod Listed
-- The two forms of a table, and how they are told apart.
pub mod Editions
-- The checks of stored bytes that both stored tables begin and end with.
pub mod Kinds
-- What is true of them.
pub mod Laws
