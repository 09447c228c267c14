-- The checks pass exactly for cost tables.
pub mod Formed
-- What the checks of all pairs say.
pub mod Pairs
