-- What is said of each refusal, and the bytes of what is said.
pub mod Sayings
pub mod Said
-- What is true of it.
pub mod Laws
