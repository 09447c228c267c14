-- Grafting in definitions.
pub mod Grafting
pub mod Sides
-- What the contracts of `grafting` say: rows kept in local arrays.
pub mod Steps
pub mod Held
-- What is true of it.
pub mod Laws
