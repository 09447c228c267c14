-- Image by image, and group by group.
pub mod Turns
-- The ways out of the readers.
pub mod Table
pub mod Stored
