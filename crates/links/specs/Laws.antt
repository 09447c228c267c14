-- How the code searches.
pub mod FirstChecks
pub mod Searches
pub mod Shifts
-- The checks pass exactly for link tables.
pub mod RowTests
pub mod LinkChecks
