pub mod Answer
-- What an answer says.
pub mod Left
-- What was noted of a whole text becomes what reading it answers.
pub mod Outcomes
pub mod Reading
