-- Images that leave, in document 02's words.
pub mod Leaving
-- What the contracts of `mending` say.
pub mod Mending
-- What it is worth.
pub mod Promises
-- What is true of it.
pub mod Laws
