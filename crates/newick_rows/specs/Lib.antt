-- What the contracts of `newick_rows` cite.
pub mod Below
pub mod Chains
-- What is true of it.
pub mod Laws
