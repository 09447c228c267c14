-- What the contracts of `lowered_rows` cite: rows in local arrays, and old rows lowered and put there.
pub mod LocalRows
pub mod Turning
pub mod Putting
-- How the code meets them.
pub mod Laws
