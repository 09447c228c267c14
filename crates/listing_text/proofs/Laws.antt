-- The ways out of the reader of a stored cost table, the last image that is asked for, and the whole text.
pub mod Read
