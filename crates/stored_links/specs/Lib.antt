-- What the readers ask of a stored link table, and what they answer.
pub mod Reading
pub mod Outcomes
pub mod Stored
-- Its checks by their numbers, in order.
pub mod InOrder
-- What is true of them.
pub mod Laws
pub mod Examples
