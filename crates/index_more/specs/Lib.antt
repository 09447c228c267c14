-- What the contracts of `index_more` cite: the lists that its loops go over.
pub mod Sides
-- How the code meets them.
pub mod Laws
