-- What the contracts of `counts` cite: the difference of two lists of far sides, and how a merge counts it.
pub mod Differ
pub mod Merge
pub mod Tally
-- When two lists disagree wholly.
pub mod Disagreement
-- Small differences, computed.
pub mod Examples
-- What is true of it.
pub mod Laws
