-- Of the search for a place.
pub mod Searching
-- Of rows moved up.
pub mod Shifting
-- Of a search by halves, and of rows moved one by one.
pub mod Halves
pub mod Moving
