-- What a reader must believe: the tables of a team, and what the call answers.
pub mod Team
pub mod Call
-- How the code gets there.
pub mod Taking
-- What the promise is worth.
pub mod Promises
pub mod Answers
pub mod Teams
-- Small teams, computed.
pub mod Examples
-- Its checks by their numbers, in order.
pub mod InOrder
-- What is true of it.
pub mod Laws
