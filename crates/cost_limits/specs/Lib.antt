-- What the contracts of `cost_limits` cite: the checks.
pub mod Checks
-- What is true of them.
pub mod Laws
