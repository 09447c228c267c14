-- Sets of images, groups and heights, on every well-formed table.
pub mod Sets
pub mod Heights
pub mod Determined
-- The exact tree of a table with levels.
pub mod Rest
pub mod LinkIndex
pub mod LevelList
pub mod Putting
