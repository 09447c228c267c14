-- What the contracts of `brought` cite: the sides that are asked for the rows that can stay, and the values.
pub mod Chosen
pub mod Choosing
pub mod Answers
-- How the code meets them.
pub mod Laws
