-- What the contracts of `near_images` cite: near images, and the rows that can stay.
pub mod Near
-- How the code meets them.
pub mod Laws
