-- Bytes behind a table.
pub mod Behind
-- Places enough for every table.
pub mod Enough
-- What is read, and what was written.
pub mod Passed
pub mod Positions
pub mod ReadAt
-- Both forms.
pub mod Told
