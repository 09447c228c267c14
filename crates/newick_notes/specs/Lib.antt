-- What the contracts of `newick_notes` cite: what is noted, and what is kept of open brackets.
pub mod Stacks
pub mod Turns
pub mod Able
-- What is true of it.
pub mod Laws
