pub mod Answers
-- Small teams, computed.
pub mod Examples
-- Its checks by their numbers, in order.
pub mod InOrder
-- Laws.
pub mod Laws
-- What the promise is worth.
pub mod Promises
pub mod Teams
