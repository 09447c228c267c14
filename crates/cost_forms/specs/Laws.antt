-- The stored order, the table that given entries say, where they end, and how long a form is.
pub mod Entries
pub mod Tables
pub mod Sizes
pub mod Form
