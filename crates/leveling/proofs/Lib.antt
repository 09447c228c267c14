pub mod Examples
-- Laws.
pub mod Laws
-- What refusal 21 is worth, and examples.
pub mod Promises
