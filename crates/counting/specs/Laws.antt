-- The tables before, and one more with its tree.
pub mod Before
pub mod Taken
pub mod PutIn
-- The exact reading, and a table that gets 7.
pub mod Exact
pub mod Apart
