-- What the contracts of `compare` cite: the answer in document 01's words.
pub mod Call
-- What an answer says of the two tables, and what the promise is worth.
pub mod Answers
pub mod Promises
pub mod Disagreement
-- Small comparisons, computed.
pub mod Examples
-- Its checks by their numbers, in order.
pub mod InOrder
