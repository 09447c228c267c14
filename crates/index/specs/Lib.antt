-- What the contracts of `index` cite: the answer of the call.
pub mod Call
-- What the promise is worth: what the index is, what its sign says, where it ends, and how far it moves.
pub mod IndexIs
pub mod AtZero
pub mod Ends
pub mod Promises
pub mod Moved
pub mod Examples
-- Its checks by their numbers, in order.
pub mod InOrder
-- How the code meets it.
pub mod Laws
