-- Rows that are filled one after another.
pub mod Filling
