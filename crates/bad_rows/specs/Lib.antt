-- Which rows are bad, and which own links are missing.
pub mod BadRows
