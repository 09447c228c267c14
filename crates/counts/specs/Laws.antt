-- How the code counts.
pub mod Counted
pub mod Merge
pub mod InnerRows
-- A count one by one.
pub mod Tally
