-- What the searches find, and what is written below a row.
pub mod Searches
pub mod Images
