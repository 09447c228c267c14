-- What is true of the entries of a cost table put as fields.
pub mod Laws
