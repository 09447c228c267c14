-- When both tables are accepted, and by what the comparison refuses.
pub mod Answers
