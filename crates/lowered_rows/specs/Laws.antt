-- Rows in local arrays, one row more, and all of them.
pub mod LocalRows
pub mod Turning
pub mod Putting
