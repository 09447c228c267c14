-- Which image is last.
pub mod LastImage
-- What the reader of stored tables gave, and the text that follows.
pub mod Stored
-- What stands behind the table.
pub mod Behind
