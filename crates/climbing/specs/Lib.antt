-- What the contracts of `climbing` cite: the climb.
pub mod Climbs
-- What is true of it.
pub mod Laws
