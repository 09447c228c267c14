-- What the contracts of `seen` cite: the far sides seen, in document 02's words, and how they stand in three slices.
pub mod Seen
pub mod Columns
pub mod Put
pub mod Merging
pub mod Ready
-- What is true of them.
pub mod Laws
