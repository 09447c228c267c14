pub mod Examples
-- What is true of it.
pub mod Laws
