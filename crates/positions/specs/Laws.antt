-- How a field is taken.
pub mod Fields
