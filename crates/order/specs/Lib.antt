-- What the call answers and leaves behind.
pub mod Outcome
-- What was written then, that a refused call altered nothing, and that no second answer meets the promise.
pub mod Promises
-- Its checks by their numbers, in order.
pub mod InOrder
-- What is true of it.
pub mod Laws
