-- Rows in local arrays, and the rows written.
pub mod LocalRows
pub mod Held
