-- What the three parts of the new rows ask, and what they make.
pub mod Parts
