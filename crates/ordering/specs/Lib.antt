-- The next image to the left, as the code finds it.
pub mod Next
-- What is true of it.
pub mod Laws
