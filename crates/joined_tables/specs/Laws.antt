-- The next table of a batch, a turn of the loop over the tables, and all of them joined.
pub mod Next
