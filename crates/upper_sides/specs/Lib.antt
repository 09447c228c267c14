-- Chains of sides, and what is least over a side and beside it.
pub mod Chains
-- What the contracts of `upper_sides` cite: the way along a chain.
pub mod Links
-- How the code meets them.
pub mod Laws
