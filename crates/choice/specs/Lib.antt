-- What the contracts of `choice` cite: the answer in document 01's words, and what reading one table gives.
pub mod Inclusion
pub mod Call
pub mod Read
pub mod Taken
-- Its checks by their numbers, in order.
pub mod InOrder
-- Examples that antt computes.
pub mod Examples
-- What the answer is worth, and how the code meets it.
pub mod Laws
