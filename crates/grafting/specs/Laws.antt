-- Heights, and the path and the closed rows by them.
pub mod Heights
pub mod Sides
pub mod Path
pub mod Sums
-- Grafting gives the exact reading.
pub mod Supported
pub mod OwnRows
pub mod Sound
pub mod Grafted
pub mod Reading
-- Room for the path and for the table.
pub mod Room
-- The code.
pub mod Closing
pub mod OwnTable
pub mod Growing
