-- What one image more makes of the old rows.
pub mod Growing
-- What the contracts of `growing` cite: the reading of the first images.
pub mod Held
-- How the code meets them.
pub mod Laws
