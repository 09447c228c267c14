-- What Newick text is: trees, their text, the profile.
pub mod Trees
pub mod Profile
-- The table of a tree, and the tree of a table.
pub mod Tables
pub mod Order
pub mod LinkTrees
pub mod UpperRows
-- How it is read byte by byte.
pub mod States
pub mod Bytes
pub mod Ends
pub mod Spelled
-- How a text is checked, and what is noted of it on one way through.
pub mod Reading
pub mod Noting
-- What is true of it.
pub mod Laws
pub mod Examples
