-- What the contracts of `newick_scan` cite: what a byte makes of what was noted, and the answer.
pub mod Noting
pub mod Able
pub mod Says
-- What is noted, by what was read of the text.
pub mod Notes
pub mod Reading
-- What is true of it.
pub mod Laws
pub mod Examples
