-- A path cut, in definitions.
pub mod Cuts
-- What the contracts of `path_cuts` say: rows kept in local arrays.
pub mod Steps
-- What is true of it.
pub mod Laws
