pub mod Examples
pub mod InOrder
-- Laws.
pub mod Laws
pub mod Promises
