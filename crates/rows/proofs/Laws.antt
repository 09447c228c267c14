-- Of rows in two arrays.
pub mod Places
-- Of a row put in its place in a list.
pub mod Put
-- Of many rows, and of those with a cost.
pub mod PutAll
-- Of a row put in its place in two arrays.
pub mod Putting
