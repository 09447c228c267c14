pub mod Joins
pub mod Scan
pub mod Sorted
-- The condition as one inequality, over sorted threes, and that the scan finds the first of all.
pub mod ThreePoint
