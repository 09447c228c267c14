-- What is stored of a cost table, in which form, and what bytes say.
pub mod Entries
pub mod Form
pub mod Said
pub mod Sizes
-- What is true of it.
pub mod Laws
