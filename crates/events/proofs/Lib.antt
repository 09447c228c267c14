-- What is true of it.
pub mod Laws
