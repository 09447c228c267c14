-- One way through a text notes what the tree says.
pub mod Marks
pub mod Named
pub mod Falls
-- The rows put in their places are the sorted rows.
pub mod Distinct
pub mod Differing
pub mod Capped
pub mod Collecting
pub mod Searching
pub mod Table
