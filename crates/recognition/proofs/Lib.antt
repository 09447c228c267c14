-- Laws.
pub mod Laws
pub mod Promises
