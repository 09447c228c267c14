-- Bytes behind a table.
pub mod Agreeing
pub mod Behind
-- Places enough for every table.
pub mod Enough
-- What is read, and what was written.
pub mod Passed
pub mod Positions
-- Both forms.
pub mod Told
