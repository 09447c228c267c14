-- The next to the left, and the places written from the end.
pub mod Next
pub mod Backward
