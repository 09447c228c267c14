-- One test, and that the scan finds the first of all.
pub mod Once
