-- What the contracts of `chains` cite: a walk up a chain, and what image k brings to each side.
pub mod Walks
pub mod Values
-- How the code meets them.
pub mod Laws
