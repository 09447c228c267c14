-- What the reader asks of a stored cost table, and what it answers.
pub mod Reading
pub mod Outcomes
pub mod Stored
-- Its checks by their numbers, in order.
pub mod InOrder
-- What is true of them.
pub mod Laws
pub mod Examples
