-- Laws.
pub mod Laws
-- What it is worth.
pub mod Promises
