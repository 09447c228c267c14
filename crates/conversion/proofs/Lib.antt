-- What the promises are worth.
pub mod ConvertedCosts
pub mod ConvertedLinks
-- Examples that antt computes.
pub mod Examples
-- The checks by their numbers, in order.
pub mod InOrder
-- Laws.
pub mod Laws
-- Tables that were stored while two images could cost nothing.
pub mod Zeros
