-- What the contracts of `newick_bytes` cite: reading with numbers alone.
pub mod Seen
pub mod Tests
pub mod Next
pub mod Outer
-- What they are kept of.
pub mod Kept
-- What is true of it.
pub mod Laws
