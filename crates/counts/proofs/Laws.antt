pub mod Disagreement
pub mod Distance
-- What the count is worth: the slip of document 01, the triangle inequality, the disagreement, how many inner rows there are.
pub mod Formula
