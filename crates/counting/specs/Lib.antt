-- Where the code stands between two tables, and what one table more does.
pub mod Standing
pub mod Ready
pub mod Taking
-- What is true of it.
pub mod Laws
