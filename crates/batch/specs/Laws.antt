-- The laws, from one table of a batch up to reading it back.
pub mod Answers
pub mod Steps
pub mod ReadBack
