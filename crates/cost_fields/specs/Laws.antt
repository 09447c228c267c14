-- How the entries are put.
pub mod Putting
