-- What is said of one refusal, and the bytes of it.
pub mod Saying
pub mod Said
-- What the contracts of `phrases` cite beside: the refusals whose places decide the words.
pub mod ByPlace
