-- What the call answers and leaves, in document 02's words.
pub mod Outcome
-- Which tables are read, and what the report says of them.
pub mod Follows
pub mod Reported
pub mod Promises
-- Its checks by their numbers.
pub mod InOrder
-- Small reports, computed.
pub mod Examples
-- What the contracts of the code cite.
pub mod Same
pub mod Turning
-- What is true of them.
pub mod Laws
