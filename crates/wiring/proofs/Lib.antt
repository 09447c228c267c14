-- Laws.
pub mod Laws
-- What refusal 7 is worth.
pub mod Promises
