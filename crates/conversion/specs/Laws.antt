-- Two limits at once.
pub mod Limits
-- The entries, from one form into another.
pub mod Taken
