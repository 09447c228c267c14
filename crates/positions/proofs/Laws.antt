-- Where a reader stands behind a table, and that the table stands within the bytes.
pub mod Stands
