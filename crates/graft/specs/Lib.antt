-- What the promise of the second engine is worth.
pub mod Promises
-- How the code meets it.
pub mod Laws
