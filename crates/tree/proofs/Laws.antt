pub mod Writing
-- What the crates above cite of one table's exact reading.
pub mod Exact
