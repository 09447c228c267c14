-- What the contracts of `routes` cite: the checks in their order, and what the calls leave.
pub mod Orders
pub mod Outcomes
pub mod Asked
-- What the promises are worth.
pub mod Promises
-- Its checks by their numbers, in order.
pub mod InOrder
-- What is true of it.
pub mod Laws
