-- The formula that recognises an entry, in an order of the images.
pub mod Recognition
-- An order as it stands in a slice.
pub mod Seats
-- What is true of them, and what the promises are worth.
pub mod Laws
