-- How long the lines can be.
pub mod Lengths
-- Of what the report has left.
pub mod Left
-- Of bytes that cannot matter to the reading.
pub mod Behind
