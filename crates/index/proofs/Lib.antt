pub mod Examples
-- Its checks by their numbers, in order.
pub mod InOrder
-- Laws.
pub mod Laws
pub mod Moved
pub mod Promises
