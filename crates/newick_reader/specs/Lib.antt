-- What the contracts of `newick_reader` cite: the answer, and what the notes of a text make of it.
pub mod Outcomes
pub mod Notes
pub mod InOrder
-- What is true of it.
pub mod Laws
pub mod Promises
pub mod Examples
