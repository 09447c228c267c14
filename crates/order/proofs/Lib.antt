-- Its checks by their numbers, in order.
pub mod InOrder
-- Laws.
pub mod Laws
-- And of a table that is a little off.
pub mod MeasuredRing
-- What was written then, that a refused call altered nothing, and that no second answer meets the promise.
pub mod Promises
