-- What the contracts of `newick_table` cite: costs that count as one bad cost, and what the notes of a text say.
pub mod Capping
pub mod Notes
-- What is true of it.
pub mod Laws
