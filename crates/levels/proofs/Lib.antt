pub mod Examples
-- Its checks by their numbers, in order.
pub mod InOrder
-- Laws.
pub mod Laws
-- What the promise is worth, what the exact tree of such a table looks like, and settled examples.
pub mod Links
pub mod Promises
pub mod Reading
