-- Where a reader stands, and what stands at a position: a table, or a field.
pub mod Stands
pub mod Fields
-- What is true of it.
pub mod Laws
