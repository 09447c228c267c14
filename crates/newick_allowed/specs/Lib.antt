-- What the contracts of `newick_allowed` cite.
pub mod Tests
