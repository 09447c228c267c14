-- What is stored of a link table, in which form, and what bytes say.
pub mod Form
pub mod Said
pub mod Sizes
-- What is true of it.
pub mod Laws
